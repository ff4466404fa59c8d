-- The capacities below i are filled in, and the entries from there on are still 0.
use Rattle.std.proofs.Common.{ℕ, ◌≡◌, ◌≤◌, length, get_or}
use Rattle.network.specs.Limits.{most_links}
use Rattle.network.specs.Words.{field}
use Rattle.area.proofs.Columns.{FilledTo}
use Rattle.station.proofs.units.capacities.Given as goal

abbrev pub invariant-loop-i : goal.invariant-loop-i
invariant-loop-i l = record {
  whole : length l.words ≡ most_links;
  filled : FilledTo 0 (λ k. field l.links.words.now k 4) l.i l.words;
  rest : (k : ℕ) → l.i ≤ k → get_or l.words k 0 ≡ 0;
}
