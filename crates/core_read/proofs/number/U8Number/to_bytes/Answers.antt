use mathlib.Core.Path.{◌∙◌}
use Prim.Native.Nat.{◌<◌}
use Rattle.core_read.proofs.Library.{set_only}
use Rattle.core_read.proofs.Numbers.{byte_bytes}
use borrow.Author.Rules.{rules}
use Rattle.core_read.proofs.number.U8Number.to_bytes.Goals as goal

pub returns : goal.returns
returns c = let h : c.args.self < 256 = search rules in
    set_only c.args.out.now c.args.self c.requires ∙ byte_bytes c.args._order c.args.self h
