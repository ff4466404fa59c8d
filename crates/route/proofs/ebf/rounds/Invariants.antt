-- The table is `rounds` as far as the rounds have gone.
use Rattle.search.proofs.ebf.Steps.{Turned}
use Rattle.route.proofs.ebf.rounds.Given as goal

abbrev pub invariant-loop : goal.invariant-loop
invariant-loop l = Turned l.p l.counter l.initial.work l.work
