-- What a window has beyond the base, as it is read: 28 bytes, then the content, the whole table and the frames at their offsets.
use Rattle.std.specs.Prelude.{ℕ, ◌+◌, ◌-◌, ◌*◌, ◌<◌, List, [], ◌∷◌, replicate, pos, Ok}
use Rattle.core_read.specs.Bytes.{number_at, Room}
use Rattle.core_read.specs.Taken.{sought, u8_taken, u16_taken, Place}
use Rattle.core_read.specs.Taken.{Taken}
use Rattle.core_read.specs.Lists.{numbers_taken}
use Rattle.core_read.specs.declared.cursor.ByteOrder.{ByteOrder}
use Rattle.flags.specs.Enums.{flip_of, flip_number}
use Rattle.flags.specs.Fields.{window_flags_of}
use Rattle.window_head.specs.Head.{head_taken}
use Rattle.ui2d.specs.Parts.{colors_taken}
use Rattle.window_read.specs.declared.WindowContent.{WindowContent}
use Rattle.window_read.specs.declared.WindowPane.{WindowPane}
use Rattle.window_head.specs.declared.WindowHead.{WindowHead}
use Rattle.window_read.specs.declared.WindowFrame.{WindowFrame}
use Rattle.window_read.specs.declared.read.WindowFound.{WindowFound}
use Rattle.ui2d.specs.declared.Color4u8.{Color4u8}
use Rattle.core_read.specs.Taken.{cursor_of}

-- four colours, material u16, quad count u8, 0
unfoldable pub content_taken : ByteOrder → List ℕ → Place → Taken WindowContent
content_taken order s p =
    let colors : Taken (List Color4u8) = colors_taken order s p in
    let material : Taken ℕ = u16_taken order s colors.then in
    let count : Taken ℕ = u8_taken order s material.then in
    let reserve : Taken ℕ = u8_taken order s count.then in
    record {
      value = record { vertex_colors = colors.value; material_index = material.value; quad_count = count.value };
      then = reserve.then;
    }

-- a frame: material u16, flip u8, 0
unfoldable pub frame_taken : ByteOrder → List ℕ → Place → Taken WindowFrame
frame_taken order s p =
    let material : Taken ℕ = u16_taken order s p in
    let flip : Taken ℕ = u8_taken order s material.then in
    let reserve : Taken ℕ = u8_taken order s flip.then in
    record {
      value = record { material_index = material.value; texture_flip_mode = flip_of flip.value };
      then = reserve.then;
    }

-- the frames at offsets from a place, in order, as material and decoded flip
unfoldable pub frames_taken : ByteOrder → List ℕ → ℕ → List ℕ → Place → Taken (List ℕ)
frames_taken order s from [] p = record { value = []; then = p }
frames_taken order s from (offset ∷ offsets) p =
    let first : Taken WindowFrame = frame_taken order s (sought s p (from + offset)) in
    let rest : Taken (List ℕ) = frames_taken order s from offsets first.then in
    record {
      value = first.value.material_index ∷ flip_number first.value.texture_flip_mode ∷ rest.value;
      then = rest.then;
    }

-- the window of a head and a content
unfoldable pub window_of : WindowHead → WindowContent → WindowPane
window_of h content = record {
  inflation_left = h.inflation.left;
  inflation_right = h.inflation.right;
  inflation_top = h.inflation.top;
  inflation_bottom = h.inflation.bottom;
  frame_size_left = h.frame_size.left;
  frame_size_right = h.frame_size.right;
  frame_size_top = h.frame_size.top;
  frame_size_bottom = h.frame_size.bottom;
  flag = h.flag;
  frame_count = h.frame_count;
  content = content;
}

-- THE READ from a place p of the run, of a body at B: head; content and quads, whole table, frames in order, by offsets from B − 8; ends at B + 104
unfoldable pub window_taken : ByteOrder → List ℕ → Place → ℕ → Taken WindowFound
window_taken order s p body =
    let head : Taken WindowHead = head_taken order s p in
    let content : Taken WindowContent = content_taken order s (sought s head.then (body - 8 + head.value.content_offset)) in
    let quads : Taken (List ℕ) = numbers_taken order 4 (8 * content.value.quad_count) s content.then in
    let to_table : Place = sought s quads.then (body - 8 + head.value.table_offset) in
    let table : Taken (List ℕ) = numbers_taken order 4 head.value.frame_count s to_table in
    let frames : Taken (List ℕ) = frames_taken order s (body - 8) table.value table.then in
    record {
      value = record { window = window_of head.value content.value; quads = cursor_of content.then; table = cursor_of to_table };
      then = sought s frames.then (body + 104);
    }

-- the numbers of its lists: quads as bits, frames as material and flip
unfoldable pub window_quads : ByteOrder → List ℕ → WindowFound → List ℕ
window_quads order s t = (numbers_taken order 4 (8 * t.window.content.quad_count) s (Ok t.quads)).value

unfoldable pub window_frames : ByteOrder → List ℕ → WindowFound → ℕ → List ℕ
window_frames order s t body =
    let table : Taken (List ℕ) = numbers_taken order 4 t.window.frame_count s (Ok t.table) in
    (frames_taken order s (body - 8) table.value table.then).value

-- each of the n frames at the offsets of a table has its 4 bytes
abbrev pub EachFrame : ByteOrder → List ℕ → ℕ → ℕ → ℕ → Type 0
EachFrame order s from table n = (i : ℕ) → i < n → Room s (from + number_at order 4 s (table + 4 * i)) 4

-- what a run that came through has passed: its quads, its table and its frames
pub record Passed (order : ByteOrder) (s : List ℕ) (t : WindowFound) (body : ℕ) : Type 0 where
  pub quads : Room s t.quads.pos (4 * (8 * t.window.content.quad_count))
  pub table : Room s t.table.pos (4 * t.window.frame_count)
  pub frames : EachFrame order s (body - 8) t.table.pos t.window.frame_count

-- the window beside a refusal: numbers 0, first cases, false
unfoldable pub blank_window : WindowPane
blank_window = record {
  inflation_left = pos 0;
  inflation_right = pos 0;
  inflation_top = pos 0;
  inflation_bottom = pos 0;
  frame_size_left = pos 0;
  frame_size_right = pos 0;
  frame_size_top = pos 0;
  frame_size_bottom = pos 0;
  flag = window_flags_of 0;
  frame_count = 0;
  content = record {
    vertex_colors = replicate 4 (record { r = 0; g = 0; b = 0; a = 0 });
    material_index = 0;
    quad_count = 0;
  };
}
