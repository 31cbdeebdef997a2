-- The words that count, tested: the kind's number, and then those of the kind.
use mathlib.Core.Path.{◌≡◌, sym, ap, ◌∙◌}
use Prim.Native.Nat.{ℕ}
use mathlib.Core.List.{List}
use Rattle.strip_records.specs.declared.kind.Kind.{Kind}
use Rattle.flat_records.specs.Below.{Checked, good, or_scanned, checked_by}
use Rattle.flat_records.proofs.Scanning.{after_bad}
use Rattle.flat.specs.declared.words.BadWord.{BadWord}
use Rattle.std.proofs.Common.{Ok, Err}
use Rattle.exports_parts.specs.Counts.{count_bounds, counts_by}

module _ (k : Kind) (w : List ℕ) (r : Checked) (e : r ≡ or_scanned good w 0 1 5) where
  pub kind_stop : (b : BadWord) → r ≡ Err b → Err b ≡ counts_by k w
  kind_stop b f = sym (ap (λ (c : Checked). checked_by c (count_bounds k) w) (sym e ∙ f) ∙ after_bad b (count_bounds k) w)

  pub kind_on : (j : Kind) (u : Unit {0}) (x : Checked) → k ≡ j → r ≡ Ok u → x ≡ checked_by good (count_bounds j) w → x ≡ counts_by k w
  kind_on j u x ek f g = g ∙ ap (λ (c : Checked). checked_by c (count_bounds j) w) (sym f ∙ e) ∙ ap (λ (i : Kind). counts_by i w) (sym ek)
