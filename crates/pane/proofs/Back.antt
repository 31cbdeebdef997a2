-- A pane that a write lets through is read back, anywhere in a buffer.
use lib.Dec.{lit≤}
use mathlib.Core.Path.{◌≡◌}
use Prim.Native.Nat.{ℕ, ◌+◌, ◌≤◌}
use native.Mathlib.Nat.{add-zero}
use native.Mathlib.Omega.{arith}
use mathlib.Core.List.{List}
use lib.ListN.{length, take, length-append, length-take}
use Rattle.core_read.specs.Taken.{advanced, stop_if, string_of}
use Rattle.core_read.specs.declared.cursor.ByteOrder.{ByteOrder}
use Rattle.core_read.specs.declared.cursor.Cursor.{Cursor}
use Rattle.core_read.proofs.Numbers.{length_bytes}
use Rattle.core_read.proofs.Cursors.{advanced_zero}
use Rattle.core_read.proofs.Back.{Holds, cut, number_at_lem, string_at, string_text, length_fixed}
use Rattle.flags.specs.Fields.{pane_flags_number, position_number, flag_ex_number}
use Rattle.flags.proofs.Fields.{pane_flags_back, pane_flags_fit, position_back, position_fit, flag_ex_back, flag_ex_fit}
use Rattle.ui2d.proofs.Parts.{length_vector2, length_vector3, vector2_at, vector3_at}
use Rattle.pane_read.specs.Pane.{text24, text8, pane_taken, encode_head, encode_transform, encode_pane, Sound}
use Rattle.pane_checks.specs.Checks.{name_ill, texts_checked}
use Rattle.pane_read.specs.Typed.{TypedPane}
use Rattle.pane_read.specs.declared.Pane.{Pane}
use Rattle.core_read.specs.Taken.{Taken}
use Rattle.pane.proofs.Cleared.{Good, sound}
use Rattle.std.specs.Prelude.{Ok}

-- what reading a pane that was written gives: the same, with zeros after the names
unfoldable pub read_back : Pane → Pane
read_back b = record {
  pane_flags = b.pane_flags;
  position = b.position;
  alpha = b.alpha;
  flag_ex = b.flag_ex;
  pane_name = string_of 24 (text24 b.pane_name);
  user_name = string_of 8 (text8 b.user_name);
  translation = b.translation;
  rotation = b.rotation;
  scale = b.scale;
  size = b.size;
}

-- ---- lengths

few_bytes : (n : ℕ) (l : List ℕ) (w : ℕ) → n ≤ w → length (take n l) ≤ w
few_bytes n l w h = simp length-take (omega arith)

length_head : (order : ByteOrder) (b : Pane) → Sound b → length (encode_head order b) ≡ 36
unfolding encode_head
length_head order b h =
    rw (
      length-append,
      length-append,
      length-append,
      length-append,
      length-append,
      length_bytes,
      length_bytes,
      length_bytes,
      length_bytes,
      length_fixed 24 (text24 b.pane_name) (few_bytes _ _ 24 h.name),
      length_fixed 8 (text8 b.user_name) (few_bytes _ _ 8 h.user),
    )

length_transform : (order : ByteOrder) (b : Pane) → length (encode_transform order b) ≡ 40
unfolding encode_transform
length_transform order b = simp (length-append, length_vector2, length_vector3)

pub length_pane : (order : ByteOrder) (b : Pane) → Sound b → length (encode_pane order b) ≡ 76
unfolding encode_pane
length_pane order b h = rw (length-append, length_head order b h, length_transform order b)

-- ---- the read

module _ {s : List ℕ} (c : Cursor) (order : ByteOrder) where
  -- THE PANE
  pane_from : (b : Pane) → TypedPane b → Good b → Holds s (c.pos + 0) (encode_pane order b)
      → ◌≡◌ {A = Taken Pane} (pane_taken order s (Ok (advanced c 0))) (record { value = read_back b; then = Ok (advanced c 76) })
  unfolding encode_pane encode_head encode_transform pane_taken read_back
  pane_from b t g a =
      let (head, tail) = cut c 0 36 (encode_head order b) (encode_transform order b) (length_head order b (sound b g)) a in
      let (a₁, r₁) = cut c 0 1 _ _ (length_bytes order 1 (pane_flags_number b.pane_flags)) head in
      let (a₂, r₂) = cut c 1 1 _ _ (length_bytes order 1 (position_number b.position)) r₁ in
      let (a₃, r₃) = cut c 2 1 _ _ (length_bytes order 1 b.alpha) r₂ in
      let (a₄, r₄) = cut c 3 1 _ _ (length_bytes order 1 (flag_ex_number b.flag_ex)) r₃ in
      let n = few_bytes b.pane_name.count b.pane_name.bytes 24 g.name.few in
      let u = few_bytes b.user_name.count b.user_name.bytes 8 g.user.few in
      let (a₅, a₆) = cut c 4 24 _ _ (length_fixed 24 (text24 b.pane_name) n) r₄ in
      let (a₇, r₇) = cut c 36 12 _ _ (length_vector3 order b.translation) tail in
      let (a₈, r₈) = cut c 48 12 _ _ (length_vector3 order b.rotation) r₇ in
      let (a₉, a₁₀) = cut c 60 8 _ _ (length_vector2 order b.scale) r₈ in
      rw (
        number_at_lem c order 0 1 (pane_flags_number b.pane_flags) (pane_flags_fit b.pane_flags) a₁,
        number_at_lem c order 1 1 (position_number b.position) (position_fit b.position) a₂,
        number_at_lem c order 2 1 b.alpha t.alpha a₃,
        number_at_lem c order 3 1 (flag_ex_number b.flag_ex) (flag_ex_fit b.flag_ex) a₄,
        string_at c 24 4 (text24 b.pane_name) (lit≤ tt) n g.name.text a₅,
        string_at c 8 28 (text8 b.user_name) (lit≤ tt) u g.user.text a₆,
        vector3_at c order 36 b.translation t.translation a₇,
        vector3_at c order 48 b.rotation t.rotation a₈,
        vector2_at c order 60 b.scale t.scale a₉,
        vector2_at c order 68 b.size t.size a₁₀,
        pane_flags_back b.pane_flags,
        position_back b.position,
        flag_ex_back b.flag_ex g.reserve,
      )

  pub pane_back : (b : Pane) → TypedPane b → Good b → Holds s c.pos (encode_pane order b)
      → ◌≡◌ {A = Taken Pane} (pane_taken order s (Ok c)) (record { value = read_back b; then = Ok (advanced c 76) })
  pane_back b t g a =
      let h : Holds s (c.pos + 0) (encode_pane order b) = rw (add-zero c.pos) a in
      rw (advanced_zero c) at (pane_from b t g h)

-- check 7 lets it through
pub texts_back : (b : Pane) → Good b → (c : Cursor) (body : ℕ) → texts_checked (Ok c) (read_back b) body ≡ Ok c
unfolding texts_checked read_back name_ill stop_if
texts_back b g c body =
    rw (string_text 24 (text24 b.pane_name), string_text 8 (text8 b.user_name), g.name.formed, g.user.formed)
