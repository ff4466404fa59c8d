-- A turn stores the next word; at the end nothing is left, and the words fill the part.
use Rattle.std.proofs.Common.{◌*◌, ◌-◌, ◌≤◌, ◌≡◌, ◌∙◌, ◌++◌, List, [], ℕ, ap, length, take, drop, append-nil, length-take, arith}
use lib.ListN.{drop_of_length-le}
use lib.Seq.{sets, length-take-le}
use Rattle.network.specs.Limits.{link_words}
use Rattle.network.specs.Lists.{from}
use Rattle.network.proofs.Stored.{from_turn, from_end_lem, from_stored}
use Rattle.link_file.proofs.records.read_records.Goals as goal

pub loop-i-preserved : goal.loop-i-preserved
loop-i-preserved c = from_turn _ c.loop-i.to-items c.loop-i.i (link_words * c.args.m) _ (omega (arith, length-take {A = ℕ})) c.word.ensures ∙ c.loop-i.invariant

-- the words past a part keep theirs
filled : (f : ℕ → ℕ) (t part : List ℕ) (n i : ℕ) → n ≤ length t → n ≤ i
    → sets part i (from f i (n - i)) ≡ sets (take n t) 0 (from f 0 n)
    → part ++ drop n t ≡ from f 0 n ++ drop n t
filled f t part n i room over stored =
    let long : length (take n t) ≡ n = length-take-le n t room in
    let none : drop n (take n t) ≡ [] = drop_of_length-le (take n t) {i = n} (omega arith) in
    ap (λ (l : List ℕ). l ++ drop n t)
    (from_end_lem f part i n over ∙ stored ∙ from_stored f (take n t) n (omega arith) ∙ rw none (append-nil _))

pub returns : goal.returns
returns c =
    filled _ c.args.table.now c.loop-i.to-items (link_words * c.args.m) c.loop-i.i (omega arith)
    (omega (arith, length-take {A = ℕ})) c.loop-i.invariant
