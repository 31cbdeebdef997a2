use mathlib.Core.Path.{◌≡◌, refl, ap, sym}
use Prim.Native.Nat.{ℕ, ◌+◌, ◌*◌, ◌/◌, ◌≤◌}
use lib.ListN.{length, replicate}
use Rattle.core_read.specs.Bytes.{bytes_of_all}
use Rattle.core_write.specs.Puts.{Puts}
use Rattle.core_write.proofs.Chain.{◌then◌, puts_as}
use Rattle.window_write.specs.Write.{table_offset, content_padding, window_length, encode_head, frame_offsets, encode_window}
use native.Mathlib.Omega.{arith}
use borrow.Author.Rules.{rules}
use Rattle.window_write.proofs.write.put_window.Goals as goal

-- there is room for every part
room : (body q f k p o : ℕ) → k ≡ content_padding body q → p + window_length body q f ≤ o → p + 48 + 4 * q + k + 8 * (f / 2) ≤ o
unfolding window_length
room body q f k p o e h = omega arith

-- the table's offset
table : (body q k : ℕ) → k ≡ content_padding body q → 132 + 4 * q + k ≡ table_offset body q
unfolding table_offset
table body q k e = omega arith

pub put_head-requires : goal.put_head-requires
put_head-requires c = omega (arith, room _ _ _ _ _ _ c.content_padding-zeros.ensures.0 c.requires.room, c.requires)

pub put_content-requires : goal.put_content-requires
put_content-requires c = record { quads_len_bound = search rules; room = omega (arith, room _ _ _ _ _ _ c.content_padding-zeros.ensures.0 c.requires.room, c.requires) }

pub put_zeros-requires : goal.put_zeros-requires
put_zeros-requires c = omega (arith, room _ _ _ _ _ _ c.content_padding-zeros.ensures.0 c.requires.room, c.requires)

pub put_offsets-requires : goal.put_offsets-requires
put_offsets-requires c = omega (arith, room _ _ _ _ _ _ c.content_padding-zeros.ensures.0 c.requires.room, c.requires)

pub put_frames-requires : goal.put_frames-requires
put_frames-requires c = omega (arith, room _ _ _ _ _ _ c.content_padding-zeros.ensures.0 c.requires.room, c.requires)

-- what the writer of its own put is what stands behind the lent one, since the reference is the same
pub returns : goal.returns
unfolding encode_window window_length
returns c =
    let n = length c.args.frames.now / 2 in
    let z = c.content_padding-zeros.ensures.0 in
    let h : Puts _ _ (window_length c.args.body (length c.args.quads.now) (length c.args.frames.now)) (λ order. encode_window order c.args.body c.args.x c.args.quads.now c.args.frames.now) =
    puts_as (omega (arith, z)) (λ order. refl)
    (puts_as refl (λ order. ap (encode_head order c.args.x n) (table _ _ _ z)) c.put_head.ensures
    then c.put_content.ensures
    then puts_as z (λ order. ap (λ (k : ℕ). replicate k 0) z) c.put_zeros.ensures
    then puts_as refl (λ order. ap (λ (a : ℕ). bytes_of_all order 4 (frame_offsets (a + 4 * n) n)) (table _ _ _ z)) c.put_offsets.ensures
    then c.put_frames.ensures) in
    search (rules, h.put, sym h.same)
