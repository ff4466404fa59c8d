-- A search on what the code reads of a well-formed area is a search on the network that the request sees: the flags say which
-- links have the units free, and the delays are those for the request's target. The two networks agree at every link, and past
-- the last one a search reads nothing.
-- Assumes nothing.
use Prim.Native.Nat.{ℕ, ◌*◌, ◌<◌}
use mathlib.Core.Path.{◌≡◌, refl, sym, ap, ◌∙◌}
use mathlib.Core.Bool.{Bool, true, false}
use mathlib.Core.List.{List}
use native.Mathlib.Omega.{arith}
use lib.Dec.{leb}
use lib.ListN.{length, get_or}
use Rattle.network.specs.Limits.{link_words}
use Rattle.network.specs.Net.{Net}
use Rattle.network.specs.Reduce.{Outcome, no_path, no_solution, granted}
use Rattle.network.specs.Words.{net_of, LinkTable}
use Rattle.network.specs.declared.Request.{Request}
use Rattle.network.specs.declared.Grant.{Grant as Numbers}
use Rattle.network.specs.declared.answer.NoRoute.{NoRoute}
use Rattle.search.specs.Result.{Ready, Searchable, Alike, outcome, search_answer_of, path_after as written_by}
use Rattle.search.proofs.Result.{outcome_depends, totals_depend, ready_searchable}
use Rattle.area.specs.Layout.{first_link}
use Rattle.area.specs.Station.{nodes_in, links_in, table_in, station, words_at, cost_of}
use Rattle.area.specs.Books.{books, net, delay_to}
use Rattle.area.specs.Formed.{WellFormed, well_formed, TableFits}
use Rattle.area.specs.FreeIn.{free_in}
use Rattle.area.specs.Refusals.{refuses, grants, number, refusal_of}
use Rattle.area.proofs.ReadCases.{formed_free}
use Rattle.area.proofs.Formed.{formed_says}
use Rattle.area.proofs.WordsAt.{words_length}
use Rattle.area.proofs.Columns.{delay_low}
use Rattle.std.specs.Prelude.{Ok, Err}
use Rattle.rules.specs.Requests.{RequestFits}
use Rattle.rules.specs.Replies.{PathReply, reply_of, answer_of, path_after}
use Rattle.rules.specs.Calls.{searched}
use Rattle.rules.specs.SearchableArea.{SearchableArea}
use Rattle.rules.specs.Meaning.{books_in, net_for}
use Rattle.rules.proofs.Granting.{failed_reply, found_reply, path_reply}
use Rattle.rules.proofs.Meaning.{request_says}

-- ---- networks that agree in all that a search may depend on reply alike
module _ (g o : Net) (r : Request) (same : Alike g o) (ok : Searchable g r) where
  pub replies_depend : reply_of g (outcome g r) ≡ reply_of o (outcome o r)
  unfolding reply_of
  replies_depend = totals (outcome g r) refl ∙ ap (reply_of o) (outcome_depends g o same r)
    where
      totals : (a : Outcome) → outcome g r ≡ a → reply_of g a ≡ reply_of o a
      totals no_path e = refl
      totals no_solution e = refl
      totals (granted which p) e =
          let sums = totals_depend g o same r ok which p e in
          rw (sums.0, sums.1) refl

-- ---- what the code hands to a search: n nodes, k links with these words, flags, delays and costs
pub record Handed (w : List ℕ) (r : Request) (n k : ℕ) (links : List ℕ) (flags : List Bool) (delays costs : List ℕ) : Type 0 where
  pub nodes : n ≡ nodes_in w
  pub count : k ≡ links_in w
  pub words : links ≡ (table_in w).words
  pub flagged : (i : ℕ) → i < links_in w → get_or flags i false ≡ leb r.terms.units (free_in w i)
  pub delayed : (i : ℕ) → i < links_in w → get_or delays i 0 ≡ delay_to (table_in w) r.target i
  pub priced : (i : ℕ) → i < links_in w → get_or costs i 0 ≡ cost_of (table_in w) i

module _ (w : List ℕ) (ok : well_formed w ≡ true) (r : Request) {n k : ℕ} {links : List ℕ} {flags : List Bool} {delays costs : List ℕ}
    (handed : Handed w r n k links flags delays costs) where
  formed : WellFormed w
  formed = formed_says w ok

  fits : TableFits (table_in w)
  unfolding station
  fits = formed.sound.table

  links_are : links ≡ words_at w first_link (link_words * links_in w)
  unfolding table_in
  links_are = handed.words

  -- it is a link table
  pub table_held : LinkTable n k links delays costs
  unfolding table_in
  table_held =
      record {
        nodes_some = omega (arith, handed.nodes, fits.nodes_least);
        nodes_most = omega (arith, handed.nodes, fits.nodes_most);
        links_most = omega (arith, handed.count, fits.links_most);
        whole = ap length links_are ∙ words_length w first_link (link_words * links_in w) ∙ ap (λ (j : ℕ). link_words * j) (sym handed.count);
        from = λ i low. rw (links_are, handed.nodes) (fits.each i (omega (arith, handed.count, low))).from;
        to = λ i low. rw (links_are, handed.nodes) (fits.each i (omega (arith, handed.count, low))).to;
        delay = λ i low.
            let here : i < links_in w = omega (arith, handed.count, low) in
            omega (arith, handed.delayed i here, delay_low w ok r.target i here);
        cost = λ i low.
            let here : i < links_in w = omega (arith, handed.count, low) in
            omega (arith, handed.priced i here, (fits.each i here).cost);
      }

  -- and a network like the one that the request sees
  pub net_alike : Alike (net_of n k links flags delays costs) (net_for w r)
  unfolding net_of net books station table_in
  net_alike =
      record {
        nodes = handed.nodes;
        links = handed.count;
        tail = λ i low. rw links_are refl;
        head = λ i low. rw links_are refl;
        usable = λ i low. handed.flagged i (omega (arith, low, handed.count)) ∙ ap (leb r.terms.units) (formed_free w ok i);
        delay = λ i low. handed.delayed i (omega (arith, low, handed.count));
        cost = λ i low. handed.priced i (omega (arith, low, handed.count));
      }

  -- ---- a search on it
  module _ (work path : List ℕ) (asked : SearchableArea w work path r) where
    request : RequestFits (nodes_in w) r
    request = request_says (nodes_in w) r asked.request

    pub search_ready : Ready n work path r
    search_ready =
        rw handed.nodes
        (record {
          memory = asked.memory;
          buffer = asked.buffer;
          source = request.source;
          target = request.target;
          apart = request.apart;
          terms = request.terms;
        })

    abbrev g : Net
    g = net_of n k links flags delays costs

    -- what it finds is the reply that the books give
    reply_is : reply_of g (outcome g r) ≡ searched (books_in w) r
    unfolding searched
    reply_is =
        replies_depend g (net_for w r) r net_alike
        (ready_searchable n k links flags delays costs work path r table_held search_ready)

    -- so a refusal of the search, what it found and the path buffer after are those of that reply
    pub failed : (e : NoRoute) → Err e ≡ search_answer_of g (outcome g r) → refuses (number (refusal_of e)) ≡ answer_of (searched (books_in w) r)
    failed e is = failed_reply _ _ e is ∙ ap answer_of reply_is

    pub found : (a : Numbers) → Ok a ≡ search_answer_of g (outcome g r) → grants a ≡ answer_of (searched (books_in w) r)
    found a is = found_reply _ _ a is ∙ ap answer_of reply_is

    pub written : (l : List ℕ) → written_by (outcome g r) l ≡ path_after (searched (books_in w) r) l
    written l = path_reply _ (outcome g r) l ∙ ap (λ (a : PathReply). path_after a l) reply_is
