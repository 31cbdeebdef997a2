-- The 84 fixed bytes of a text box after the base, as they are written in four chunks.
use Rattle.std.specs.Prelude.{ℕ, List, ◌++◌}
use Rattle.core_read.specs.Bytes.{bytes_of}
use Rattle.core_read.specs.declared.cursor.ByteOrder.{ByteOrder}
use Rattle.flags.specs.Enums.{alignment_number}
use Rattle.flags.specs.Fields.{origin_number, text_flags_number}
use Rattle.ui2d.specs.Parts.{encode_vector2, encode_color}
use Rattle.text_box_read.specs.TextBox.{measure_kind, measure_vector}
use Rattle.text_box_read.specs.declared.TextBoxPane.{TextBoxPane}

unfoldable pub encode_indices : ByteOrder → TextBoxPane → List ℕ
encode_indices order x =
    bytes_of order 2 x.text_buffer_size
    ++ (bytes_of order 2 x.text_length ++ (bytes_of order 2 x.material_index ++ bytes_of order 2 x.font_index))

unfoldable pub encode_style : ByteOrder → TextBoxPane → List ℕ
encode_style order x =
    bytes_of order 1 (origin_number x.text_origin)
    ++ (bytes_of order 1 (alignment_number x.text_alignment)
    ++ (bytes_of order 2 (text_flags_number x.text_flags (measure_kind x.font_measure)) ++ bytes_of order 4 x.italic_tilt.bits))

-- with the offsets of text and label
unfoldable pub encode_font : ByteOrder → TextBoxPane → ℕ → ℕ → List ℕ
encode_font order x text label =
    bytes_of order 4 text
    ++ (encode_color order x.font_top_color
    ++ (encode_color order x.font_bottom_color
    ++ (encode_vector2 order (measure_vector x.font_measure)
    ++ (bytes_of order 4 x.character_space.bits
    ++ (bytes_of order 4 x.line_space.bits
    ++ bytes_of order 4 label)))))

-- with the offset of the line table; the per-character offset is 0
unfoldable pub encode_shadow : ByteOrder → TextBoxPane → ℕ → List ℕ
encode_shadow order x lines =
    encode_vector2 order x.shadow_translation
    ++ (encode_vector2 order x.shadow_size
    ++ (encode_color order x.shadow_top_color
    ++ (encode_color order x.shadow_bottom_color
    ++ (bytes_of order 4 x.shadow_italic_tilt.bits
    ++ (bytes_of order 4 lines
    ++ bytes_of order 4 0)))))

unfoldable pub encode_fixed : ByteOrder → TextBoxPane → ℕ → ℕ → ℕ → List ℕ
encode_fixed order x text label lines = encode_indices order x ++ (encode_style order x ++ (encode_font order x text label ++ encode_shadow order x lines))
