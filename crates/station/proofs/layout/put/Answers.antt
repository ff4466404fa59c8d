-- Before the first turn all is left to store; a turn stores the next word; at the end nothing is left.
use Rattle.std.proofs.Common.{arith, ◌+◌, ◌∙◌}
use Rattle.network.proofs.Stored.{put_none, put_turn, put_end}
use Rattle.station.proofs.layout.put.Goals as goal

pub loop-i-init : goal.loop-i-init
loop-i-init c = put_none c.args.area.now c.args.words.now c.args.at

pub loop-i-preserved : goal.loop-i-preserved
loop-i-preserved c =
    put_turn c.loop-i.area c.args.words.now c.args.at c.loop-i.i (omega arith) ∙ c.loop-i.invariant

pub returns : goal.returns
returns c =
    put_end c.loop-i.area c.args.words.now (c.args.at + c.loop-i.i) c.loop-i.i (omega arith) ∙ c.loop-i.invariant
