-- The lent part has five words for each link.
use Rattle.area.proofs.TableCases.{part_length, table_words_at}
use Rattle.station.proofs.table.links_in.Goals as goal

pub invariant_of-result : goal.invariant_of-result
invariant_of-result c = record { whole = part_length c.args.area.now _ _ c.part.ensures; few = c.requires.few }

pub returns-clause-words : goal.returns-clause-words
returns-clause-words c = table_words_at c.args.area.now _ c.part.ensures
