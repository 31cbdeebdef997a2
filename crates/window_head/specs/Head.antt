-- The head of a window, as it is read: the 28 bytes after the base.
use Rattle.std.specs.Prelude.{ℕ, List, ℤ}
use Rattle.core_read.specs.Taken.{u8_taken, u16_taken, u32_taken, i16_taken, Place}
use Rattle.core_read.specs.Taken.{Taken}
use Rattle.core_read.specs.declared.cursor.ByteOrder.{ByteOrder}
use Rattle.flags.specs.Fields.{window_flags_of}
use Rattle.window_head.specs.declared.Sides.{Sides}
use Rattle.window_head.specs.declared.WindowHead.{WindowHead}

-- four i16: left, right, top, bottom
unfoldable pub sides_taken : ByteOrder → List ℕ → Place → Taken Sides
sides_taken order s p =
    let left : Taken ℤ = i16_taken order s p in
    let right : Taken ℤ = i16_taken order s left.then in
    let top : Taken ℤ = i16_taken order s right.then in
    let bottom : Taken ℤ = i16_taken order s top.then in
    record {
      value = record { left = left.value; right = right.value; top = top.value; bottom = bottom.value };
      then = bottom.then;
    }

-- inflation, then frame size; frame count u8, flags, u16 0, content offset, frame table offset
unfoldable pub head_taken : ByteOrder → List ℕ → Place → Taken WindowHead
head_taken order s p =
    let inflation : Taken Sides = sides_taken order s p in
    let size : Taken Sides = sides_taken order s inflation.then in
    let count : Taken ℕ = u8_taken order s size.then in
    let flag : Taken ℕ = u8_taken order s count.then in
    let reserve : Taken ℕ = u16_taken order s flag.then in
    let content : Taken ℕ = u32_taken order s reserve.then in
    let table : Taken ℕ = u32_taken order s content.then in
    record {
      value = record {
        inflation = inflation.value;
        frame_size = size.value;
        frame_count = count.value;
        flag = window_flags_of flag.value;
        content_offset = content.value;
        table_offset = table.value;
      };
      then = table.then;
    }
