use Rattle.flat.specs.Base.{base_words}
use Rattle.flat.proofs.Lengths.{name_end, user_end, base_long}
use mathlib.Core.Path.{◌≡◌, refl}
use lib.ListN.{length}
use borrow.Author.Rules.{rules}
use Rattle.flat.proofs.Storing.{next}
use Rattle.flat.proofs.base.put_base.Goals as goal

pub returns : goal.returns
unfolding base_words
returns c =
    let name : length c.args.b.pane_name.bytes ≡ 24 = search rules in
    let user : length c.args.b.user_name.bytes ≡ 8 = search rules in
    (record { same = refl; stored = (next refl c.put_flags.ensures (next refl c.put_position.ensures (next refl c.put_flag_ex.ensures (next (name_end c.args.b.pane_name name) c.put_string.ensures (next (user_end c.args.b.user_name user) c.put_string-2.ensures c.put_transform.ensures))))) }, base_long c.args.b name user)
