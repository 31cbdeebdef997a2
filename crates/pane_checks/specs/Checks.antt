-- The checks of a base pane.
use Rattle.std.specs.Prelude.{ℕ, ◌+◌, Bool, not, ◌||◌, List, take, ltb}
use Rattle.core_read.specs.Taken.{stop_if, has_zero, Place}
use Rattle.core_read.specs.declared.error.Refusal.TheVariants.{BadName, Reserve0, IllFormedUtf8}
use Rattle.utf8.specs.Utf8.{well_formed}
use Rattle.pane_read.specs.declared.Pane.{Pane}
use Rattle.core_read.specs.declared.error.CheckedText.TheVariants.{PaneName, UserName}

-- the counted bytes are ill-formed UTF-8
unfoldable pub name_ill : List ℕ → ℕ → Bool
name_ill bytes count = not (well_formed (take count bytes))

-- over its width, with a NUL or ill-formed
unfoldable pub name_bad : ℕ → List ℕ → ℕ → Bool
name_bad width bytes count = (ltb width count || has_zero (take count bytes)) || name_ill bytes count

-- 7, of a pane that was read at B: the name, which begins at B + 4, then the user name, at B + 28
unfoldable pub texts_checked : Place → Pane → ℕ → Place
texts_checked p b body =
    let q : Place = stop_if p (name_ill b.pane_name.bytes b.pane_name.count) (IllFormedUtf8 (body + 4) PaneName) in
    stop_if q (name_ill b.user_name.bytes b.user_name.count) (IllFormedUtf8 (body + 28) UserName)

-- 9: name over 24, with a NUL or ill-formed; then user name over 8 or with either fault
unfoldable pub names_checked : Place → Pane → Place
names_checked p b =
    let q : Place = stop_if p (name_bad 24 b.pane_name.bytes b.pane_name.count) (BadName PaneName) in
    stop_if q (name_bad 8 b.user_name.bytes b.user_name.count) (BadName UserName)

-- 10: reserve0 above 31
unfoldable pub reserve_checked : Place → Pane → Place
reserve_checked p b = stop_if p (ltb 31 b.flag_ex.reserve0) (Reserve0 b.flag_ex.reserve0)
