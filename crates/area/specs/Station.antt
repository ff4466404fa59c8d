-- What the words of an area say: the table that loading fixed, and the held circuits. This file reads document 01's
-- layout, Moves.antt and Load.antt write it, and everything else speaks of a `Station`.
-- Assumes nothing.
use Rattle.std.specs.Prelude.{ℕ, zero, suc, ◌+◌, ◌*◌, List, [], ◌∷◌, get_or}
use Rattle.network.specs.Limits.{link_words}
use Rattle.network.specs.Lists.{from}
use Rattle.network.specs.Words.{field}
use Rattle.area.specs.Layout.{circuit_words, first_circuit, first_hold, first_link, path_start}

-- what loading fixes: the nodes, how many links, the links' words and each node's hold time
pub record Table : Type 0 where
  pub nodes : ℕ
  pub links : ℕ
  pub words : List ℕ
  pub hold_times : List ℕ

-- document 01's circuit: its number, its units, and the links of its path
pub record Circuit : Type 0 where
  pub number : ℕ
  pub units : ℕ
  pub path : List ℕ

pub record Station : Type 0 where
  pub table : Table
  pub held : List Circuit

-- a link's five fields
abbrev pub tail_of : Table → ℕ → ℕ
tail_of t i = field t.words i 0

abbrev pub head_of : Table → ℕ → ℕ
head_of t i = field t.words i 1

abbrev pub delay_of : Table → ℕ → ℕ
delay_of t i = field t.words i 2

abbrev pub cost_of : Table → ℕ → ℕ
cost_of t i = field t.words i 3

abbrev pub capacity_of : Table → ℕ → ℕ
capacity_of t i = field t.words i 4

-- how long a node holds each message before it sends it on
abbrev pub hold_of : Table → ℕ → ℕ
hold_of t v = get_or t.hold_times v 0

-- n words from place a on; a word past the end reads 0
abbrev pub words_at : List ℕ → ℕ → ℕ → List ℕ
words_at w a zero = []
words_at w a (suc n) = get_or w a 0 ∷ words_at w (suc a) n

-- where circuit j begins
abbrev pub place : ℕ → ℕ
place j = first_circuit + circuit_words * j

-- a circuit's words: number, units, link count, then the path
unfoldable pub circuit_of : List ℕ → Circuit
circuit_of c = record { number = get_or c 0 0; units = get_or c 1 0; path = words_at c path_start (get_or c 2 0) }

-- the words of the circuit at place j, and the circuit that they say
abbrev pub words_in : List ℕ → ℕ → List ℕ
words_in w j = words_at w (place j) circuit_words

abbrev pub circuit_at : List ℕ → ℕ → Circuit
circuit_at w j = circuit_of (words_in w j)

-- the first h circuits, in the order of their places
abbrev pub circuits : List ℕ → ℕ → List Circuit
circuits w h = from (circuit_at w) 0 h

-- word 0 is n, word 1 is m, word 2 is h; links begin at word 3, and behind the circuits stand the hold times
abbrev pub nodes_in : List ℕ → ℕ
nodes_in w = get_or w 0 0

abbrev pub links_in : List ℕ → ℕ
links_in w = get_or w 1 0

abbrev pub held_in : List ℕ → ℕ
held_in w = get_or w 2 0

unfoldable pub table_in : List ℕ → Table
table_in w =
    record {
      nodes = nodes_in w;
      links = links_in w;
      words = words_at w first_link (link_words * links_in w);
      hold_times = words_at w first_hold (nodes_in w);
    }

-- the first 34 × h words of circuits, in which the held ones stand
abbrev pub held_words : List ℕ → List ℕ
held_words w = words_at w first_circuit (circuit_words * held_in w)

unfoldable pub station : List ℕ → Station
station w = record { table = table_in w; held = circuits w (held_in w) }
