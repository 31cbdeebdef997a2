-- How many words the base has, and where its names end.
use mathlib.Core.Path.{◌≡◌, refl, ◌∙◌}
use Prim.Native.Nat.{ℕ, ◌+◌}
use native.Mathlib.Omega.{arith}
use mathlib.Core.List.{List, ◌∷◌, ◌++◌}
use lib.ListN.{length, length-append}
use Rattle.core_read.specs.declared.text.FixedString.{FixedString}
use Rattle.pane_read.specs.declared.Pane.{Pane}
use Rattle.flat.specs.Base.{name_words, user_words, transform_words, base_words}

pub name_end : (n : FixedString 24) → length n.bytes ≡ 24 → 18 + length (name_words n) ≡ 43
name_end n h = omega (arith, h)

pub user_end : (n : FixedString 8) → length n.bytes ≡ 8 → 43 + length (user_words n) ≡ 52
user_end n h = omega (arith, h)

after_user : (u t : List ℕ) → length u ≡ 8 → length t ≡ 10 → length (u ++ t) ≡ 18
after_user u t h k = length-append u t ∙ omega (arith, h, k)

after_name : (n u t : List ℕ) → length n ≡ 24 → length u ≡ 8 → length t ≡ 10 → (k : ℕ) → length (n ++ (k ∷ (u ++ t))) ≡ 43
after_name n u t h i j k = length-append n (k ∷ (u ++ t)) ∙ omega (arith, h, after_user u t i j)

pub base_long : (b : Pane) → length b.pane_name.bytes ≡ 24 → length b.user_name.bytes ≡ 8 → length (base_words b) ≡ 61
unfolding base_words
base_long b h k =
    omega (arith, after_name b.pane_name.bytes b.user_name.bytes (transform_words b.translation b.rotation b.scale b.size) h k refl b.user_name.count)
