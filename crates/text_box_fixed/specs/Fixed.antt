-- The 84 fixed bytes of a text box after the base, as they are read in three chunks.
use Rattle.std.specs.Prelude.{ℕ, List}
use Rattle.core_read.specs.Taken.{u8_taken, u16_taken, u32_taken, Place}
use Rattle.core_read.specs.Taken.{Taken}
use Rattle.core_read.specs.declared.cursor.ByteOrder.{ByteOrder}
use Rattle.flags.specs.Enums.{alignment_of}
use Rattle.flags.specs.Fields.{origin_of, text_flags_of}
use Rattle.floats.specs.Floats.{float}
use Rattle.ui2d.specs.Parts.{vector2_taken, color_taken}
use Rattle.text_box_fixed.specs.declared.fixed.TextHead.{TextHead}
use Rattle.text_box_fixed.specs.declared.fixed.TextFont.{TextFont}
use Rattle.text_box_fixed.specs.declared.fixed.TextShadow.{TextShadow}
use Rattle.text_box_fixed.specs.declared.fixed.TextFixed.{TextFixed}
use Rattle.ui2d.specs.declared.Vector2f.{Vector2f}
use Rattle.ui2d.specs.declared.Color4u8.{Color4u8}

-- u16 buffer size, text_length, material, font; origin, alignment; u16 flags; tilt
unfoldable pub head_taken : ByteOrder → List ℕ → Place → Taken TextHead
head_taken order s p =
    let size : Taken ℕ = u16_taken order s p in
    let long : Taken ℕ = u16_taken order s size.then in
    let material : Taken ℕ = u16_taken order s long.then in
    let font : Taken ℕ = u16_taken order s material.then in
    let origin : Taken ℕ = u8_taken order s font.then in
    let alignment : Taken ℕ = u8_taken order s origin.then in
    let raw : Taken ℕ = u16_taken order s alignment.then in
    let tilt : Taken ℕ = u32_taken order s raw.then in
    record {
      value = record {
        text_buffer_size = size.value;
        text_length = long.value;
        material_index = material.value;
        font_index = font.value;
        text_origin = origin_of origin.value;
        text_alignment = alignment_of alignment.value;
        word = text_flags_of raw.value;
        italic_tilt = float tilt.value;
      };
      then = tilt.then;
    }

-- text offset; top and bottom colour; font measure (2 floats); character and line space; label offset
unfoldable pub font_taken : ByteOrder → List ℕ → Place → Taken TextFont
font_taken order s p =
    let text : Taken ℕ = u32_taken order s p in
    let top : Taken Color4u8 = color_taken order s text.then in
    let bottom : Taken Color4u8 = color_taken order s top.then in
    let floats : Taken Vector2f = vector2_taken order s bottom.then in
    let character : Taken ℕ = u32_taken order s floats.then in
    let line : Taken ℕ = u32_taken order s character.then in
    let label : Taken ℕ = u32_taken order s line.then in
    record {
      value = record {
        text_offset = text.value;
        top_color = top.value;
        bottom_color = bottom.value;
        measure = floats.value;
        character_space = float character.value;
        line_space = float line.value;
        label_offset = label.value;
      };
      then = label.then;
    }

-- shadow translation and size (2 each); two colours; shadow tilt; line offset; per-character offset
unfoldable pub shadow_taken : ByteOrder → List ℕ → Place → Taken TextShadow
shadow_taken order s p =
    let translation : Taken Vector2f = vector2_taken order s p in
    let size : Taken Vector2f = vector2_taken order s translation.then in
    let top : Taken Color4u8 = color_taken order s size.then in
    let bottom : Taken Color4u8 = color_taken order s top.then in
    let tilt : Taken ℕ = u32_taken order s bottom.then in
    let line : Taken ℕ = u32_taken order s tilt.then in
    let each : Taken ℕ = u32_taken order s line.then in
    record {
      value = record {
        translation = translation.value;
        size = size.value;
        top_color = top.value;
        bottom_color = bottom.value;
        italic_tilt = float tilt.value;
        line_offset = line.value;
        per_character_offset = each.value;
      };
      then = each.then;
    }

-- the three, one after the other
unfoldable pub fixed_taken : ByteOrder → List ℕ → Place → Taken TextFixed
fixed_taken order s p =
    let head : Taken TextHead = head_taken order s p in
    let font : Taken TextFont = font_taken order s head.then in
    let shadow : Taken TextShadow = shadow_taken order s font.then in
    record { value = record { head = head.value; font = font.value; shadow = shadow.value }; then = shadow.then }
