-- Document 01's example: the definitions give its six lines for net A's file. A file without a byte and one with a single
-- node are refused.
-- Assumes nothing.
use mathlib.Core.Path.{◌≡◌, refl}
use mathlib.Core.List.{[]}
use Rattle.network.specs.Loops.{iter, first}
use Rattle.network.specs.Scale.{scaled}
use Rattle.network.specs.Cut.{noted, follow}
use Rattle.network.specs.Reduce.{problem_one, problem_two}
use Rattle.search.specs.ebf.Table.{cell, cells, filled, initialised, improved, relaxed, offered, column, round, rounds, ebf}
use Rattle.search.specs.ebf.Trace.{place_back, step_back, traced}
use Rattle.search.specs.ebf.Solve.{path_in, answer_in, solve_in, solve}
use Rattle.search.specs.Distance.{spread, layer, distance}
use Rattle.search.specs.Heuristic.{tried, search}
use Rattle.search.specs.Result.{outcome}
use Rattle.area.specs.Station.{table_in, circuit_of}
use Rattle.link_format.specs.Reading.{word_at, signed, fills}
use Rattle.class_format.specs.Output.{file_output, output}
use Rattle.class_format.specs.NetA.{file_for, net_a_file, net_a_lines, file_seventeen, load_two}

pub net_a_prints : output net_a_file ≡ net_a_lines
unfolding output file_output net_a_file word_at signed fills table_in circuit_of outcome search tried solve solve_in answer_in path_in ebf rounds round column offered relaxed improved initialised filled cell cells traced step_back place_back noted follow distance layer spread problem_one problem_two scaled iter first
net_a_prints = refl

pub no_byte_prints : output [] ≡ file_seventeen
unfolding output file_output signed
no_byte_prints = refl

pub one_node_prints : output (file_for 1) ≡ load_two
unfolding output file_output file_for word_at signed fills
one_node_prints = refl
