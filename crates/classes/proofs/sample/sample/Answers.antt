-- The words of the rows, one behind the other, are the sample table, by computation.
use Rattle.std.proofs.Common.{ℕ, ◌/◌, ◌%◌, List, [], ◌∷◌, map, length, get_or, rules}
use Rattle.std.proofs.lemmas.List.FromFn.{fill_by_all}
use Rattle.network.specs.declared.Terms.{Terms}
use Rattle.rules.specs.ClassTable.{row_words}
use Rattle.rules.specs.SampleClasses.{sample_rows, words_of, sample}
use Rattle.classes.proofs.sample.sample.Goals as goal

-- the constant array: the words of each row
abbrev rows : List (List ℕ)
rows = map (λ (s : Terms). words_of (s ∷ [])) sample_rows

abbrev word : ℕ → ℕ
word i = get_or (get_or rows (i / row_words) []) (i % row_words) 0

pub returns : goal.returns
returns c =
    fill_by_all word c.from_fn.result (length sample) 0 c.from_fn.ensures.items.long (λ k low. let h = c.from_fn.ensures.items.at k 0 low in search (rules, h))
