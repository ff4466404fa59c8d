-- The first check that fails refuses and the area stays; where all pass, the stores make the loaded area.
use Rattle.std.proofs.Common.{arith, ◌∙◌}
use Rattle.std.proofs.Math.ListN.{length-set}
use Rattle.std.proofs.Math.Seq.{length-sets}
use Rattle.std.proofs.lemmas.Grind.{common_steps}
use Rattle.area.specs.Load.{input_of}
use Rattle.area.proofs.LoadCases.{area_short, nodes_out, words_out, link_out, hold_out, all_pass, stored_loaded, holds_room}
use Rattle.station.proofs.load.load.Goals as goal

pub returns-then-area-lt-AREA_WORDS-clause-answer : goal.returns-then-area-lt-AREA_WORDS-clause-answer
returns-then-area-lt-AREA_WORDS-clause-answer c = (area_short c.args.area.now (input_of c.args.n c.args.links.now c.args.hold_times.now) (omega arith)).0

pub returns-then-area-lt-AREA_WORDS-clause-area : goal.returns-then-area-lt-AREA_WORDS-clause-area
returns-then-area-lt-AREA_WORDS-clause-area c = (area_short c.args.area.now (input_of c.args.n c.args.links.now c.args.hold_times.now) (omega arith)).1

pub returns-then-not-contains-clause-answer : goal.returns-then-not-contains-clause-answer
returns-then-not-contains-clause-answer c = (nodes_out c.args.area.now (input_of c.args.n c.args.links.now c.args.hold_times.now) (omega arith) (grind (arith, common_steps))).0

pub returns-then-not-contains-clause-area : goal.returns-then-not-contains-clause-area
returns-then-not-contains-clause-area c = (nodes_out c.args.area.now (input_of c.args.n c.args.links.now c.args.hold_times.now) (omega arith) (grind (arith, common_steps))).1

pub returns-then-links-ne0-clause-answer : goal.returns-then-links-ne0-clause-answer
returns-then-links-ne0-clause-answer c =
    (words_out c.args.area.now (input_of c.args.n c.args.links.now c.args.hold_times.now) (omega arith) (grind (arith, common_steps)) c.then-links-ne0.either).0

pub returns-then-links-ne0-clause-area : goal.returns-then-links-ne0-clause-area
returns-then-links-ne0-clause-area c =
    (words_out c.args.area.now (input_of c.args.n c.args.links.now c.args.hold_times.now) (omega arith) (grind (arith, common_steps)) c.then-links-ne0.either).1

pub returns-then-not-links_fit-clause-answer : goal.returns-then-not-links_fit-clause-answer
returns-then-not-links_fit-clause-answer c =
    (link_out c.args.area.now (input_of c.args.n c.args.links.now c.args.hold_times.now) (omega arith) (grind (arith, common_steps)) c.if-links-ne0.false (omega arith) (cc)).0

pub returns-then-not-links_fit-clause-area : goal.returns-then-not-links_fit-clause-area
returns-then-not-links_fit-clause-area c =
    (link_out c.args.area.now (input_of c.args.n c.args.links.now c.args.hold_times.now) (omega arith) (grind (arith, common_steps)) c.if-links-ne0.false (omega arith) (cc)).1

pub returns-then-not-hold_times_fit-clause-answer : goal.returns-then-not-hold_times_fit-clause-answer
returns-then-not-hold_times_fit-clause-answer c =
    (hold_out c.args.area.now (input_of c.args.n c.args.links.now c.args.hold_times.now) (omega arith) (grind (arith, common_steps)) c.if-links-ne0.false (omega arith) (cc) (cc)).0

pub returns-then-not-hold_times_fit-clause-area : goal.returns-then-not-hold_times_fit-clause-area
returns-then-not-hold_times_fit-clause-area c =
    (hold_out c.args.area.now (input_of c.args.n c.args.links.now c.args.hold_times.now) (omega arith) (grind (arith, common_steps)) c.if-links-ne0.false (omega arith) (cc) (cc)).1

pub returns-clause-answer : goal.returns-clause-answer
returns-clause-answer c =
    (all_pass c.args.area.now (input_of c.args.n c.args.links.now c.args.hold_times.now) (omega arith) (grind (arith, common_steps)) c.if-links-ne0.false (omega arith) (cc) (cc)).0

pub returns-clause-area : goal.returns-clause-area
returns-clause-area c =
    let w = c.args.area.now in
    rw (c.put-2.ensures, c.put.ensures)
    (stored_loaded w (input_of c.args.n c.args.links.now c.args.hold_times.now) (omega arith)
    ∙ (all_pass w (input_of c.args.n c.args.links.now c.args.hold_times.now) (omega arith) (grind (arith, common_steps)) c.if-links-ne0.false (omega arith) (cc) (cc)).1)

pub put-requires-2 : goal.put-requires-2
put-requires-2 c =
    let room = holds_room c.args.area.now c.args.n c.args.hold_times.now (omega arith) (grind (arith, common_steps)) (cc) in
    rw c.put.ensures (simp (length-set, length-sets) (omega (arith, room)))
