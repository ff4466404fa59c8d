-- The network whose links' ends are in link words: five words a link, in the order from, to, delay, cost, capacity. Its delays
-- and costs stand beside them, since a request's may differ from the words'.
-- Assumes nothing.
use Rattle.std.specs.Prelude.{ℕ, ◌+◌, ◌*◌, ◌≤◌, ◌<◌, ◌≡◌, Bool, false, List, length, get_or}
use Rattle.network.specs.Limits.{link_words, most_links, most_nodes, most_weight}
use Rattle.network.specs.Net.{Net}

-- word j of link i
abbrev pub field : List ℕ → ℕ → ℕ → ℕ
field words i j = get_or words (link_words * i + j) 0

-- n nodes and m links between the ends that these words give, of which those that `usable` says are usable, with these
-- delays and costs
abbrev pub net_by : ℕ → ℕ → List ℕ → (ℕ → Bool) → (ℕ → ℕ) → (ℕ → ℕ) → Net
net_by n m words usable delay cost =
    record {
      nodes = n;
      links = m;
      tail = λ i. field words i 0;
      head = λ i. field words i 1;
      usable = usable;
      delay = delay;
      cost = cost;
    }

-- the same by lists, a number for each link: its flag, which is set where it is usable, its delay and its cost
unfoldable pub net_of : ℕ → ℕ → List ℕ → List Bool → List ℕ → List ℕ → Net
net_of n m words flags delays costs =
    net_by n m words (λ i. get_or flags i false) (λ i. get_or delays i 0) (λ i. get_or costs i 0)

-- a link table of n nodes and m links with these delays and costs, as a search relies on it: it reads no more of the words
-- than the ends, and equal ends do it no harm
pub record LinkTable (n m : ℕ) (words delays costs : List ℕ) : Type 0 where
  pub nodes_some : 0 < n
  pub nodes_most : n ≤ most_nodes
  pub links_most : m ≤ most_links
  pub whole : length words ≡ link_words * m
  pub from : (i : ℕ) → i < m → field words i 0 < n
  pub to : (i : ℕ) → i < m → field words i 1 < n
  pub delay : (i : ℕ) → i < m → get_or delays i 0 ≤ most_weight
  pub cost : (i : ℕ) → i < m → get_or costs i 0 ≤ most_weight
