-- The circuit's numbers are tested, and where they fit its unused words and the number before it decide.
use mathlib.Core.Bool.{and-false}
use Rattle.std.proofs.Common.{refl, ◌∙◌}
use Rattle.area.specs.Formed.{unused_clear}
use Rattle.area.proofs.CircuitCases.{circuit_there, numbers_fail, words_left}
use Rattle.station.proofs.places.Places.get.Goals.{then-not-unused_clear-via-then-not-unused_clear, then-not-unused_clear-via-else-not-unused_clear+then-not-rises}
use Rattle.station.proofs.places.Places.get.Goals as goal

pub returns-in_err-circuit-clause-fits : goal.returns-in_err-circuit-clause-fits
returns-in_err-circuit-clause-fits c =
    rw c.from_residual.ensures
    (numbers_fail c.args.self.now.area.now c.args.j c.place.result c.place.ensures _ c.part-words.ensures c.in_err-circuit.ensures.fits)

pub returns-then-not-unused_clear-clause-fits : goal.returns-then-not-unused_clear-clause-fits
returns-then-not-unused_clear-clause-fits c =
    elim c.then-not-unused_clear.branch [
      | then-not-unused_clear-via-then-not-unused_clear w ↦ rw (← w.if-not-unused_clear.ensures) refl
      | then-not-unused_clear-via-else-not-unused_clear+then-not-rises w ↦
          rw (← w.if-not-rises.ensures, and-false (unused_clear c.part-words.result.now)) refl
    ]
    ∙ words_left c.args.self.now.area.now c.args.j c.place.result c.place.ensures _ c.part-words.ensures c.in_ok-circuit.ensures.fits

pub returns-clause-fits : goal.returns-clause-fits
returns-clause-fits c =
    rw (← c.if-not-unused_clear.ensures, ← c.if-not-rises.ensures) refl
    ∙ words_left c.args.self.now.area.now c.args.j c.place.result c.place.ensures _ c.part-words.ensures c.in_ok-circuit.ensures.fits

pub returns-clause-is : goal.returns-clause-is
returns-clause-is c =
    circuit_there c.args.self.now.area.now c.args.j c.place.result c.place.ensures _ c.part-words.ensures _ c.in_ok-circuit.ensures.is
