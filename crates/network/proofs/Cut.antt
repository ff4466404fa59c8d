-- A walk with its loops cut is a path with no greater sum in any weight: from every node that the walk left, its last
-- link away leads to t or to a node that was left later, so the links noted lead to t and pass no node twice.
-- Assumes nothing.
use mathlib.Core.Path.{◌≡◌, refl, sym, ◌∙◌, ap, subst}
use mathlib.Core.Bool.{true, false, false≢true}
use mathlib.Core.List.{List, [], ◌∷◌}
use Prim.Native.Nat.{ℕ, zero, suc, ◌-◌, ◌≤◌, ◌<◌}
use native.Mathlib.Omega.{arith}
use lib.ListN.{length, get_or, set, length-set}
use lib.Seq.{get_or-set_same, get_or-set_other}
use borrow.Author.Tests.{eq-eqb, ne_eqb, lt-leb}
use Rattle.network.specs.Limits.{most_nodes}
use Rattle.network.specs.Lists.{All, Distinct}
use Rattle.network.specs.Net.{Net, Ends, Walk, IsPath, Some, nodes_of, sum}
use Rattle.network.specs.NodeSet.{member}
use Rattle.network.specs.Cut.{Notes, left_already, noted, note_link, notes, follow, cut}
use Rattle.network.proofs.Tests.{by_eq, by_bool, by_test}
use Rattle.network.proofs.NodeSet.{member_empty, member_inserted, member_others, inserted_keeps}
use Rattle.network.proofs.Short.{walk_short}

-- r is a walk as good as p and passes no node twice
pub record IsCut (g : Net) (s t : ℕ) (p r : List ℕ) : Type 0 where
  pub walk : Walk g s t r
  pub distinct : Distinct (nodes_of g s r)
  pub less : (w : ℕ → ℕ) → sum w r ≤ sum w p

-- ---- the notes with one link more: a node that was left keeps its note, and a new one gets the link
module _ (g : Net) (i : ℕ) (n : Notes) where
  note_cases : (P : List ℕ → Type 0) → (member n.left (g.tail i) ≡ true → P n.next)
      → (member n.left (g.tail i) ≡ false → P (set n.next (g.tail i) i))
      → P (note_link g i n).next
  unfolding noted
  note_cases P = by_test (left_already n.left (g.tail i)) n.next (set n.next (g.tail i) i) P

  note_same : (v : ℕ) → member n.left v ≡ true → get_or (note_link g i n).next v 0 ≡ get_or n.next v 0
  note_same v m =
      note_cases (λ l. get_or l v 0 ≡ get_or n.next v 0) (λ e. refl)
      (λ e. get_or-set_other n.next (g.tail i) v i 0 (λ q. false≢true (sym e ∙ ap (member n.left) (sym q) ∙ m)))

  note_new : g.tail i < length n.next → member n.left (g.tail i) ≡ false → get_or (note_link g i n).next (g.tail i) 0 ≡ i
  unfolding noted
  note_new low e = rw e (get_or-set_same n.next (g.tail i) i 0 low)

  note_length : length (note_link g i n).next ≡ length n.next
  note_length = note_cases (λ l. length l ≡ length n.next) (λ e. refl) (λ e. length-set n.next (g.tail i) i)

-- a note for each node that there may be
notes_length : (g : Net) (p : List ℕ) → length (notes g p).next ≡ most_nodes
notes_length g [] = refl
notes_length g (i ∷ p) = note_length g i (notes g p) ∙ notes_length g p

module _ (g : Net) (t : ℕ) where
  -- link i is the one noted at v, and v is not where the walk ends
  record Step (n : Notes) (v i : ℕ) : Type 0 where
    pub away : v ≡ t → ⊥
    pub left : member n.left v ≡ true
    pub note : get_or n.next v 0 ≡ i
    pub listed : i < g.links
    pub usable : g.usable i ≡ true
    pub leaves : g.tail i ≡ v

  -- the notes lead from v to t by the links r, through no node twice
  abbrev Led : Notes → ℕ → List ℕ → Type 0
  Led n v [] = v ≡ t
  Led n v (i ∷ r) = Step n v i × All (λ b. v ≡ b → ⊥) (nodes_of g (g.head i) r) × Led n (g.head i) r

  led_walk : (n : Notes) (v : ℕ) (r : List ℕ) → Led n v r → Walk g v t r
  led_walk n v [] h = h
  led_walk n v (i ∷ r) h = (h.0.listed, h.0.usable, h.0.leaves, led_walk n (g.head i) r h.2)

  led_distinct : (n : Notes) (v : ℕ) (r : List ℕ) → Led n v r → Distinct (nodes_of g v r)
  led_distinct n v [] h = (tt, tt)
  led_distinct n v (i ∷ r) h = (h.1, led_distinct n (g.head i) r h.2)

  -- following the notes gives these links
  led_follow : (n : Notes) (f v : ℕ) (r : List ℕ) → length r ≤ f → Led n v r → follow g n.next t f v ≡ r
  unfolding follow
  led_follow n zero v [] low h = refl
  led_follow n zero v (i ∷ r) low h = absurd (omega arith)
  led_follow n (suc f) v [] low h = rw (eq-eqb v t h)
  led_follow n (suc f) v (i ∷ r) low h =
      rw (ne_eqb v t h.0.away, h.0.note, lt-leb g.links i h.0.listed) (ap (λ l. i ∷ l) (led_follow n f (g.head i) r (omega arith) h.2))

  -- one link more in the notes leaves them so
  led_still : (i : ℕ) (n : Notes) (v : ℕ) (r : List ℕ) → Led n v r → Led (note_link g i n) v r
  led_still i n v [] h = h
  led_still i n v (j ∷ r) h = (
    record {
      away = h.0.away;
      left = inserted_keeps n.left (g.tail i) v h.0.left;
      note = note_same g i n v h.0.left ∙ h.0.note;
      listed = h.0.listed;
      usable = h.0.usable;
      leaves = h.0.leaves;
    },
    h.1,
    led_still i n (g.head j) r h.2,
  )

  -- a node that was not left, and is not t, is not passed
  led_apart : (n : Notes) (a v : ℕ) (r : List ℕ) → (a ≡ t → ⊥) → member n.left a ≡ false → Led n v r → All (λ b. a ≡ b → ⊥) (nodes_of g v r)
  led_apart n a v [] away new h = ((λ e. away (e ∙ h)), tt)
  led_apart n a v (i ∷ r) away new h =
      ((λ e. false≢true (sym new ∙ ap (member n.left) e ∙ h.0.left)), led_apart n a (g.head i) r away new h.2)

  -- a way by the notes of p that is as good as p
  record Way (p : List ℕ) (v : ℕ) : Type 0 where
    pub links : List ℕ
    pub led : Led (notes g p) v links
    pub less : (w : ℕ → ℕ) → sum w links ≤ sum w p

  -- where the walk starts was left, unless it ends there
  start_left : (s : ℕ) (p : List ℕ) → Walk g s t p → (s ≡ t → ⊥) → member (notes g p).left s ≡ true
  start_left s [] w away = absurd (away w)
  start_left s (i ∷ p) w away = rw w.2 (member_inserted (notes g p).left s)

  no_links : (p : List ℕ) (v : ℕ) → v ≡ t → Way p v
  no_links p v e = record { links = []; led = e; less = λ w. omega arith }

  -- one link more in front of the walk: the ways that there were stay
  further : (i : ℕ) (p : List ℕ) (v : ℕ) → Way p v → Way (i ∷ p) v
  further i p v way =
      record { links = way.links; led = led_still i (notes g p) v way.links way.led; less = λ w. omega (arith, way.less w) }

  module _ (ends : Ends g) (few_nodes : g.nodes ≤ most_nodes) where
    -- and a node that it leaves for the first time has a way through it
    onward : (i : ℕ) (p : List ℕ) → i < g.links → g.usable i ≡ true → (g.tail i ≡ t → ⊥) → member (notes g p).left (g.tail i) ≡ false
        → Way p (g.head i)
        → Way (i ∷ p) (g.tail i)
    onward i p listed usable away new way =
        let n : Notes = notes g p in
        record {
          links = i ∷ way.links;
          led = (
            record {
              away = away;
              left = member_inserted n.left (g.tail i);
              note = note_new g i n (omega (arith, ends.tails i listed, notes_length g p)) new;
              listed = listed;
              usable = usable;
              leaves = refl;
            },
            led_apart n (g.tail i) (g.head i) way.links away new way.led,
            led_still i n (g.head i) way.links way.led,
          );
          less = λ w. omega (arith, way.less w);
        }

    -- a way from t and from every node that was left
    way_from : (s : ℕ) (p : List ℕ) → Walk g s t p → (v : ℕ) → ((v ≡ t → ⊥) → member (notes g p).left v ≡ true) → Way p v
    way_from s [] w v left = by_eq v t (no_links [] v) (λ away. absurd (false≢true (sym (member_empty v) ∙ left away)))
    way_from s (i ∷ p) w v left =
        by_eq v t (no_links (i ∷ p) v)
        (λ away.
        by_bool (member (notes g p).left v) (λ old. further i p v (way_from (g.head i) p w.3 v (λ _. old)))
        (λ new.
        by_eq (g.tail i) v
        (λ q.
        rw (← q)
        (onward i p w.0 w.1 (λ e. away (sym q ∙ e)) (rw q new)
        (way_from (g.head i) p w.3 (g.head i) (start_left (g.head i) p w.3))))
        (λ q. absurd (false≢true (sym new ∙ sym (member_others (notes g p).left (g.tail i) v q) ∙ left away)))))

-- a walk between two nodes has a link
pub some_link : (g : Net) (s t : ℕ) → (s ≡ t → ⊥) → (p : List ℕ) → Walk g s t p → Some p
some_link g s t differ [] w = differ w
some_link g s t differ (i ∷ p) w = tt

module _ (g : Net) (ends : Ends g) (few_nodes : g.nodes ≤ most_nodes) (s t : ℕ) (s_low : s < g.nodes) (p : List ℕ) (w : Walk g s t p) where
  pub cut_walk : IsCut g s t p (cut g s t p)
  unfolding cut
  cut_walk =
      let way = way_from g t ends few_nodes s p w s (start_left g t s p w) in
      let walk = led_walk g t (notes g p) s way.links way.led in
      let distinct = led_distinct g t (notes g p) s way.links way.led in
      let short : length way.links ≤ g.nodes - 1 = walk_short g ends s t s_low way.links walk distinct in
      subst (IsCut g s t p) (sym (led_follow g t (notes g p) (g.nodes - 1) s way.links short way.led))
      (record { walk = walk; distinct = distinct; less = way.less })

  pub cut_path : (s ≡ t → ⊥) → IsPath g s t (cut g s t p)
  cut_path differ =
      record { some = some_link g s t differ (cut g s t p) cut_walk.walk; walk = cut_walk.walk; distinct = cut_walk.distinct }
