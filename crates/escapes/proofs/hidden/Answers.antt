use Rattle.std.proofs.Common.{◌≡◌, ◌∙◌, ℕ, ◌-◌, ltb, List, drop, refl, rules, tests}
use Rattle.std.specs.List.{list_any, range_with_len}
use Rattle.std.proofs.lemmas.List.{take_rest}
use Rattle.std.proofs.lemmas.Iterator.{YieldsList-from_range}
use Rattle.std.proofs.lemmas.Iterator.Search.{any_from_yields_List}
use Rattle.escapes.specs.Escaped.{hidden_width, hidden}
use Rattle.escapes.proofs.hidden.Goals as goal

pub returns : goal.returns
unfolding hidden
returns c =
    let s : List ℕ = c.args.s.now in
    let i = c.args.i in
    let any : c.any.result ≡ list_any (λ back. ltb back (hidden_width (drop (i - back) s))) (range_with_len 0 3) =
    any_from_yields_List (λ back. ltb back (hidden_width (drop (i - back) s))) _ _ _ c.any.ensures.ran (YieldsList-from_range 0 3 3 (cc) refl) (λ x b q k. search (rules, tests, take_rest)) in
    any ∙ search rules
