-- At first every entry is 0; a turn fills in the next; past the end of the table a link's words are 0 too.
use Rattle.std.proofs.Common.{arith, ◌∙◌, sym, ℕ, length-set}
use lib.ListN.{replicate, get_or-replicate, get_or-eq_default, length-replicate}
use lib.Seq.{get_or-set_other}
use Rattle.network.specs.Limits.{most_links}
use Rattle.network.specs.Words.{field}
use Rattle.network.proofs.Past.{past_links}
use Rattle.network.proofs.Tests.{by_lt}
use Rattle.area.proofs.Columns.{filled_more}
use Rattle.station.proofs.units.capacities.Goals as goal

pub loop-i-init : goal.loop-i-init
loop-i-init c =
    record {
      whole = length-replicate {A = ℕ} most_links 0;
      filled = λ k low. absurd (omega (arith, low));
      rest = λ k low. by_lt k most_links (get_or-replicate most_links k 0 0) (get_or-eq_default (replicate most_links 0) 0);
    }

pub loop-i-preserved : goal.loop-i-preserved
loop-i-preserved c =
    record {
      whole = length-set c.loop-i.words c.loop-i.i _ ∙ c.loop-i.invariant.whole;
      filled =
          filled_more 0 (λ k. field c.args.links.now.words.now k 4) c.loop-i.i c.loop-i.words c.loop-i.invariant.filled
          (omega (arith, c.loop-i.invariant.whole, c.args.links.now.few)) _ c.get.ensures.capacity;
      rest = λ k low. get_or-set_other c.loop-i.words c.loop-i.i k _ 0 (λ e. omega arith) ∙ c.loop-i.invariant.rest k (omega arith);
    }

pub returns : goal.returns
returns c = λ i.
    by_lt i c.loop-i.i (c.loop-i.invariant.filled i)
    (λ high. c.loop-i.invariant.rest i high ∙ sym (past_links _ _ i 4 c.args.links.now.whole (omega arith)))
