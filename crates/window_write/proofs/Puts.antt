-- Turns of the loops of a write: flips, offsets, frames.
use mathlib.Core.Path.{◌≡◌, refl, sym, ap, ◌∙◌}
use mathlib.Core.List.{List, [], ◌∷◌, ◌++◌, append_assoc, append-nil}
use Prim.Native.Nat.{ℕ, zero, suc, ◌+◌, ◌*◌, ◌/◌, ◌%◌, ◌≤◌, ◌<◌}
use native.Mathlib.Omega.{arith}
use native.Mathlib.Numerals.{add-one}
use lib.Dec.{ltb}
use borrow.Author.Tests.{lt-ltb, le-ltb}
use lib.ListN.{length, take, drop, get_or, length-drop, take-append-drop}
use lib.Seq.{drop-cons, length-take-le}
use Rattle.core_read.specs.Bytes.{ordered, bytes_of, bytes_of_all, le}
use Rattle.core_read.specs.Taken.{stop_if, Place}
use Rattle.core_checks.specs.Checks.{count_checked}
use Rattle.core_read.specs.declared.error.Refusal.{Refusal}
use Rattle.core_read.specs.declared.error.Refusal.TheVariants.{BadFlip}
use Rattle.core_read.specs.declared.cursor.ByteOrder.{ByteOrder}
use Rattle.core_read.specs.declared.cursor.Cursor.{Cursor}
use Rattle.std.specs.Simd.{first_chunks}
use Rattle.ui2d.proofs.Chunks.{chunk_at}
use Rattle.core_write.proofs.Puts.{take_more, all_append, all_one}
use Rattle.window_write.specs.Write.{flips_checked, window_checked, frame_offsets, encode_frame, encode_frames}
use Rattle.std.specs.Prelude.{Err, Ok}

-- ---- a list by pairs

-- the pair i, and the rest
pair : (l : List ℕ) (i : ℕ) → i < length l / 2 → drop (2 * i) l ≡ get_or l (2 * i) 0 ∷ get_or l (2 * i + 1) 0 ∷ drop (2 * (i + 1)) l
pair l i h =
    let e : suc (2 * i) ≡ 2 * i + 1 = omega arith in
    let f : suc (2 * i + 1) ≡ 2 * (i + 1) = omega arith in
    drop-cons l (2 * i) 0 (omega arith)
    ∙ ap (λ (r : List ℕ). get_or l (2 * i) 0 ∷ r) (ap (λ (k : ℕ). drop k l) e ∙ drop-cons l (2 * i + 1) 0 (omega arith) ∙ ap (λ (k : ℕ). get_or l (2 * i + 1) 0 ∷ drop k l) f)

-- the same of the list cut into twos
pair_at : (l : List ℕ) (i : ℕ) (twos : List (List ℕ)) → twos ≡ first_chunks 2 (length l / 2) l → i < length l / 2
    → get_or twos i [] ≡ get_or l (2 * i) 0 ∷ get_or l (2 * i + 1) 0 ∷ []
pair_at l i twos e h = ap (λ (t : List (List ℕ)). get_or t i []) e ∙ chunk_at 2 (length l / 2) i l [] h ∙ ap (take 2) (pair l i h)

few : (l : List ℕ) (i : ℕ) → length l / 2 ≤ i → length (drop (2 * i) l) ≤ 1
few l i h = simp length-drop (omega arith)

-- ---- flips

flips_few : (p : Place) (i : ℕ) (l : List ℕ) → length l ≤ 1 → flips_checked p i l ≡ p
unfolding flips_checked
flips_few p i [] h = refl
flips_few p i (a ∷ []) h = refl
flips_few p i (a ∷ b ∷ l) h = absurd (omega arith)

pub flips_none : (p : Place) (i : ℕ) (l : List ℕ) → length l / 2 ≤ i → flips_checked p i (drop (2 * i) l) ≡ p
flips_none p i l h = flips_few p i (drop (2 * i) l) (few l i h)

-- a run that was refused stays refused, whatever the lists
pub flips_stopped : (why : Refusal) (i : ℕ) (l : List ℕ) → flips_checked (Err why) i l ≡ Err why
unfolding flips_checked stop_if
flips_stopped why i [] = refl
flips_stopped why i (material ∷ []) = refl
flips_stopped why i (material ∷ flip ∷ l) = flips_stopped why (i + 1) l

pub window_stays : (why : Refusal) (quads frames : List ℕ) → window_checked (Err why) quads frames ≡ Err why
unfolding window_checked count_checked stop_if
window_stays why quads frames = flips_stopped why 0 frames

module _ (d : Cursor) (l : List ℕ) (i : ℕ) (twos : List (List ℕ)) (cut : twos ≡ first_chunks 2 (length l / 2) l) (h : i < length l / 2) where
  abbrev flip : ℕ
  flip = get_or (get_or twos i []) 1 0

  flips_turn : flips_checked (Ok d) i (drop (2 * i) l) ≡ flips_checked (stop_if (Ok d) (ltb 5 flip) (BadFlip i flip)) (i + 1) (drop (2 * (i + 1)) l)
  unfolding flips_checked
  flips_turn = rw (pair_at l i twos cut h) (ap (flips_checked (Ok d) i) (pair l i h))

  -- a good flip, or the first that is not
  pub flips_next : flip ≤ 5 → flips_checked (Ok d) i (drop (2 * i) l) ≡ flips_checked (Ok d) (i + 1) (drop (2 * (i + 1)) l)
  unfolding stop_if
  flips_next k = rw (le-ltb 5 flip k) at flips_turn

  pub flips_found : 5 < flip → flips_checked (Ok d) i (drop (2 * i) l) ≡ Err (BadFlip i flip)
  unfolding stop_if
  flips_found k = (rw (lt-ltb 5 flip k) at flips_turn) ∙ flips_stopped (BadFlip i flip) (i + 1) (drop (2 * (i + 1)) l)

-- ---- offsets

offsets_one : (first i : ℕ) → frame_offsets first (suc i) ≡ frame_offsets first i ++ ((first + 4 * i) ∷ [])
unfolding frame_offsets
offsets_one first zero = ap (λ (k : ℕ). k ∷ []) (omega arith)
offsets_one first (suc i) =
    let e : first + 4 + 4 * i ≡ first + 4 * suc i = omega arith in
    ap (λ (r : List ℕ). first ∷ r) (offsets_one (first + 4) i ∙ ap (λ (k : ℕ). frame_offsets (first + 4) i ++ (k ∷ [])) e)

pub offsets_more : (order : ByteOrder) (first i v : ℕ) → v ≡ first + 4 * i
    → bytes_of_all order 4 (frame_offsets first i) ++ bytes_of order 4 v ≡ bytes_of_all order 4 (frame_offsets first (i + 1))
offsets_more order first i v e =
    sym (ap (λ (k : ℕ). bytes_of_all order 4 (frame_offsets first k)) (add-one i)
    ∙ ap (bytes_of_all order 4) (offsets_one first i)
    ∙ all_append order 4 (frame_offsets first i) ((first + 4 * i) ∷ [])
    ∙ ap (λ (r : List ℕ). bytes_of_all order 4 (frame_offsets first i) ++ r) (all_one order 4 (first + 4 * i) ∙ ap (bytes_of order 4) (sym e)))

-- ---- frames

-- a flip is written as a byte
pub byte_low : (order : ByteOrder) (v : ℕ) → bytes_of order 1 (v % 256) ≡ bytes_of order 1 v
unfolding bytes_of le
byte_low order v = ap (λ (k : ℕ). ordered order (k ∷ [])) (omega arith)

module _ (order : ByteOrder) where
  frames_append : (a b : List ℕ) → length a % 2 ≡ 0 → encode_frames order (a ++ b) ≡ encode_frames order a ++ encode_frames order b
  unfolding encode_frames
  frames_append [] b h = refl
  frames_append (x ∷ []) b h = absurd (omega arith)
  frames_append (x ∷ y ∷ a) b h =
      rw (frames_append a b (omega arith)) (sym (append_assoc (encode_frame order x y) (encode_frames order a) (encode_frames order b)))

  frames_few : (l : List ℕ) → length l ≤ 1 → encode_frames order l ≡ []
  unfolding encode_frames
  frames_few [] h = refl
  frames_few (a ∷ []) h = refl
  frames_few (a ∷ b ∷ l) h = absurd (omega arith)

  even : (l : List ℕ) (i : ℕ) → 2 * i ≤ length l → length (take (2 * i) l) % 2 ≡ 0
  even l i h = rw (length-take-le (2 * i) l h) (omega arith)

  take_pair : (l : List ℕ) (i : ℕ) → i < length l / 2 → take (2 * (i + 1)) l ≡ take (2 * i) l ++ (get_or l (2 * i) 0 ∷ get_or l (2 * i + 1) 0 ∷ [])
  take_pair l i h =
      let e : 2 * (i + 1) ≡ 2 * i + 1 + 1 = omega arith in
      ap (λ (k : ℕ). take k l) e
      ∙ take_more l (2 * i + 1) (omega arith)
      ∙ ap (λ (t : List ℕ). t ++ (get_or l (2 * i + 1) 0 ∷ [])) (take_more l (2 * i) (omega arith))
      ∙ append_assoc (take (2 * i) l) (get_or l (2 * i) 0 ∷ []) (get_or l (2 * i + 1) 0 ∷ [])

  one_frame : (a b : ℕ) → encode_frames order (a ∷ b ∷ []) ≡ encode_frame order a b
  unfolding encode_frames
  one_frame a b = append-nil (encode_frame order a b)

  -- a frame more: the two i of the list
  pub frames_more : (l : List ℕ) (i : ℕ) (twos : List (List ℕ)) → twos ≡ first_chunks 2 (length l / 2) l → i < length l / 2
      → encode_frames order (take (2 * i) l) ++ encode_frame order (get_or (get_or twos i []) 0 0) (get_or (get_or twos i []) 1 0) ≡ encode_frames order (take (2 * (i + 1)) l)
  frames_more l i twos cut h =
      rw (pair_at l i twos cut h)
      (sym (ap (encode_frames order) (take_pair l i h)
      ∙ frames_append (take (2 * i) l) _ (even l i (omega arith))
      ∙ ap (λ (r : List ℕ). encode_frames order (take (2 * i) l) ++ r) (one_frame _ _)))

  pub frames_all : (l : List ℕ) → encode_frames order (take (2 * (length l / 2)) l) ≡ encode_frames order l
  frames_all l =
      let t = take (2 * (length l / 2)) l in
      let d = drop (2 * (length l / 2)) l in
      sym (ap (encode_frames order) (sym (take-append-drop (2 * (length l / 2)) l))
      ∙ frames_append t d (even l (length l / 2) (omega arith))
      ∙ ap (λ (r : List ℕ). encode_frames order t ++ r) (frames_few d (few l (length l / 2) (omega arith)))
      ∙ append-nil (encode_frames order t))
