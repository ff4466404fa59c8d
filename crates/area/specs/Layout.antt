-- Document 01's layout of a station area and the ranges of its circuits, each number under one name, which everything else
-- cites: it is changed here and in `station/src/layout.rt`, which has the same names for the code. The contract of
-- `station::layout::figures` equates the two. The ranges of links and requests are in `network` `Limits`.
-- Assumes nothing.
use Rattle.std.specs.Prelude.{ℕ, ◌*◌}
use Rattle.network.specs.Limits.{link_words, most_links}
use Rattle.area.specs.declared.Layout.{Layout}

-- the words of an area, at least
abbrev pub area_words : ℕ
area_words = 3491

-- where the links begin, and the words of a full table
abbrev pub first_link : ℕ
first_link = 3

abbrev pub table_words : ℕ
table_words = link_words * most_links

-- where the circuits begin, the words of one (number, units, link count, path words), where among these its path words
-- begin, and how many circuits may be held
abbrev pub first_circuit : ℕ
first_circuit = 1283

abbrev pub circuit_words : ℕ
circuit_words = 34

abbrev pub path_start : ℕ
path_start = 3

abbrev pub most_circuits : ℕ
most_circuits = 64

-- where the hold times begin, one word for each node that an area may have
abbrev pub first_hold : ℕ
first_hold = 3459

-- a circuit's number
abbrev pub least_number : ℕ
least_number = 1

abbrev pub most_number : ℕ
most_number = 65535

-- all of them, as the code's struct has them
abbrev pub figures : Layout
figures =
    record {
      area_words = area_words;
      first_link = first_link;
      table_words = table_words;
      first_circuit = first_circuit;
      circuit_words = circuit_words;
      path_start = path_start;
      most_circuits = most_circuits;
      first_hold = first_hold;
      least_number = least_number;
      most_number = most_number;
    }
