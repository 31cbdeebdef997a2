use mathlib.Core.List.{List}
use Prim.Native.Nat.{ℕ, ◌≤◌, min}
use native.Mathlib.Omega.{arith}
use mathlib.Core.Path.{◌≡◌, sym, ap, ◌∙◌}
use lib.ListN.{length, take}
use lib.Seq.{length-take-le}
use Rattle.std.specs.Int.{w32}
use Rattle.core_read.specs.Bytes.{bytes_of}
use Rattle.core_read.specs.declared.cursor.ByteOrder.TheVariants.{Little}
use Rattle.core_read.proofs.Library.{bytes_little}
use Rattle.core_write.proofs.Texts.{◌then◌, puts_named}
use Rattle.strip_write.proofs.Steps.{letters_bytes}
use Rattle.std.proofs.lemmas.List.{take_min}
use Rattle.page.specs.PageLine.{pane_text}
use borrow.Author.Rules.{rules}
use Rattle.page.proofs.line.put_pane.Goals as goal

-- the array's length, and as many bytes as are shown
counted : (n : ℕ) (s : List ℕ) → length s ≡ 24 → n ≤ 24 → length (take n s) ≡ n
counted n s e h = length-take-le n s (omega (arith, e))

pub put_quoted-requires : goal.put_quoted-requires
put_quoted-requires c =
    let l = c.min-n in
    let long : length c.args.name.bytes ≡ 24 = search rules in
    omega (arith, counted l.result _ long (omega (arith, l.ensures)), l.ensures)

pub put_size-requires : goal.put_size-requires
put_size-requires c =
    let l = c.min-n in
    let long : length c.args.name.bytes ≡ 24 = search rules in
    omega (arith, counted l.result _ long (omega (arith, l.ensures)), l.ensures)

pub returns : goal.returns
unfolding pane_text
returns c =
    let l = c.min-n in
    let long : length c.args.name.bytes ≡ 24 = search rules in
    let name = ap (λ (k : ℕ). take k c.args.name.bytes) (l.ensures ∙ ap (min c.args.name.count) (sym long)) ∙ take_min c.args.name.count c.args.name.bytes in
    let letters = puts_named (c.to_le_bytes-letters.ensures ∙ bytes_little w32 _ ∙ ap (bytes_of Little 4) c.letters.ensures ∙ letters_bytes _) c.put_bytes.ensures in
    let quoted = rw name at c.put_quoted.ensures.put in
    record {
      put = ((letters then c.put_bytes-2.ensures) then quoted) then c.put_size.ensures.put;
      upper_bound = omega (arith, counted l.result _ long (omega (arith, l.ensures)), l.ensures, letters.put.place, c.put_bytes-2.ensures.put.place, c.put_quoted.ensures.upper_bound, c.put_size.ensures.upper_bound);
    }
