-- What the code's enum says of a reply, what a granted path in the buffer is, and what a quote, an admission and a release
-- promise at a return: the reply that the code came to is the call's, so its answer and what it leaves mean what the rules
-- say.
-- Assumes nothing.
use Prim.Native.Nat.{ℕ, ◌≤◌}
use mathlib.Core.Path.{◌≡◌, refl, sym, ap, ap₂, ◌∙◌, subst}
use mathlib.Core.Bool.{true}
use mathlib.Core.List.{List, ◌++◌}
use native.Mathlib.Omega.{arith}
use lib.ListN.{length, drop}
use Rattle.network.specs.Limits.{most_path_links}
use Rattle.network.proofs.Tests.{zero_one}
use Rattle.network.specs.Net.{Net}
use Rattle.network.specs.Reduce.{Outcome, no_path, no_solution, granted}
use Rattle.network.specs.declared.Request.{Request}
use Rattle.network.specs.declared.Grant.{Grant as Numbers}
use Rattle.network.specs.declared.answer.NoRoute.{NoRoute}
use Rattle.network.specs.declared.answer.NoRoute.TheVariants.{NoPath, NoSolution}
use Rattle.std.specs.Prelude.{Ok, Err}
use Rattle.search.specs.Result as result
use Rattle.area.specs.Station.{nodes_in, table_in, station, words_at}
use Rattle.area.specs.Books.{books}
use Rattle.area.specs.Formed.{WellFormed, well_formed}
use Rattle.area.specs.Held.{place_of}
use Rattle.area.specs.Moves.{added}
use Rattle.area.proofs.Formed.{formed_says}
use Rattle.area.proofs.WordsAt.{words_front}
use Rattle.area.specs.Refusals.{Reply, refuses, grants, number, refusal_of, Answered}
use Rattle.rules.specs.Replies.{PathReply, answer_of, path_after, reply_of, ReleaseReply}
use Rattle.rules.specs.Requests.{RequestFits, request_fits}
use Rattle.rules.specs.Calls.{searched, quote, admission, booked, release, cleared}
use Rattle.rules.specs.Allowed.{Grant as Means, search_rules}
use Rattle.rules.specs.Meaning.{books_in, net_for, Cleared, AreaBooked, AreaCleared, QuoteMeans, AdmissionMeans, ReleaseMeans}
use Rattle.rules.proofs.Meaning.{request_says, searched_means, quote_means, admission_means, release_means}
use Rattle.rules.proofs.Bookings.{grant_path, seen_short, admitted_area, released_area}

-- what the search answers, with document 01's number for what it did not find, is what the reply says
pub failed_reply : (g : Net) (o : Outcome) (e : NoRoute) → Err e ≡ result.search_answer_of g o → refuses (number (refusal_of e)) ≡ answer_of (reply_of g o)
unfolding answer_of reply_of result.search_answer_of
failed_reply g no_path e is = let same : e ≡ NoPath = cc in rw same refl
failed_reply g no_solution e is = let same : e ≡ NoSolution = cc in rw same refl
failed_reply g (granted which p) e is = absurd (zero_one cc)

pub found_reply : (g : Net) (o : Outcome) (a : Numbers) → Ok a ≡ result.search_answer_of g o → grants a ≡ answer_of (reply_of g o)
unfolding answer_of reply_of result.search_answer_of
found_reply g no_path a is = absurd (zero_one cc)
found_reply g no_solution a is = absurd (zero_one cc)
found_reply g (granted which p) a is = cc

pub path_reply : (g : Net) (o : Outcome) (l : List ℕ) → result.path_after o l ≡ path_after (reply_of g o) l
unfolding path_after reply_of result.path_after
path_reply g no_path l = refl
path_reply g no_solution l = refl
path_reply g (granted which p) l = refl

-- the stored circuit is the reply's, read back from the path buffer
module _ (w : List ℕ) (c u : ℕ) (g : Numbers) (l : List ℕ) where
  stored : (a : PathReply) → answer_of a ≡ grants g
      → added w (place_of w c) (record { number = c; units = u; path = words_at (path_after a l) 0 g.links }) ≡ booked w c u a
  unfolding answer_of path_after booked
  stored (refuses k) e = absurd (zero_one cc)
  stored (grants h) e =
      let p = h.path in
      let many : g.links ≡ length p = cc in
      let path : words_at (p ++ drop (length p) l) 0 (length p) ≡ p = words_front p (drop (length p) l) in
      rw (many, path) refl

  -- the same, with the place, the buffer, the count and the part as the code holds them
  pub stored_as : (a : PathReply) → answer_of a ≡ grants g → (j : ℕ) → j ≡ place_of w c → (buffer : List ℕ) → buffer ≡ path_after a l → (count : ℕ) → count ≡ g.links
      → (p : List ℕ) → p ≡ words_at buffer 0 count
      → added w j (record { number = c; units = u; path = p }) ≡ booked w c u a
  stored_as a e j there buffer holds count is p part =
      ap₂ (λ (k : ℕ) (q : List ℕ). added w k (record { number = c; units = u; path = q })) there
      (part ∙ ap (λ (b : List ℕ). words_at b 0 count) holds ∙ ap (words_at (path_after a l) 0) is)
      ∙ stored a e

-- a refusal stores nothing
pub unstored : (w : List ℕ) (c u k : ℕ) (a : PathReply) → refuses k ≡ answer_of a → w ≡ booked w c u a
unfolding answer_of booked
unstored w c u k (refuses j) e = refl
unstored w c u k (grants g) e = absurd (zero_one cc)

-- a granted path has no more links than a path may
pub granted_short : (w : List ℕ) (r : Request) → well_formed w ≡ true → request_fits (nodes_in w) r ≡ true
    → (g : Numbers) → answer_of (searched (books_in w) r) ≡ grants g
    → g.links ≤ most_path_links
unfolding books station table_in answer_of
granted_short w r formed request g = go (searched (books_in w) r) (searched_means w r whole fits)
  where
    whole : WellFormed w
    whole = formed_says w formed

    fits : RequestFits (nodes_in w) r
    fits = request_says (nodes_in w) r request

    go : (a : PathReply) → Answered (Means (net_for w r) r) (search_rules (net_for w r) r) a → answer_of a ≡ grants g → g.links ≤ most_path_links
    go (refuses n) h e = absurd (zero_one cc)
    go (grants b) h e =
        let many : g.links ≡ length b.path = cc in
        omega (arith, seen_short w r whole fits b.path (grant_path h.1))

-- ---- a quote's return: the answer, the path buffer after and the meaning, by the reply that the code came to
module _ (w : List ℕ) (work : ℕ) (l : List ℕ) (r : Request) where
  -- what the contract says of an answer `said` and a buffer l'
  abbrev pub QuotedAs : Reply Numbers → List ℕ → Type 0
  QuotedAs said l' =
      let a = quote w work (length l) r in
      (said ≡ answer_of a) × ((l' ≡ path_after a l) × QuoteMeans w work l r said l')

  -- it holds by any reply that is the quote's
  pub quoted_as : (a : PathReply) → a ≡ quote w work (length l) r → (said : Reply Numbers) → said ≡ answer_of a
      → (l' : List ℕ) → l' ≡ path_after a l
      → QuotedAs said l'
  quoted_as a is said answers l' holds =
      let answers' = answers ∙ ap answer_of is in
      let holds' = holds ∙ ap (λ (b : PathReply). path_after b l) is in
      (answers', (holds', record { reply = quote w work (length l) r; allowed = quote_means w work (length l) r; answer = answers'; path = holds' }))

  -- a refusal answers its number and changes no lent word
  pub refusal_quoted : (k : ℕ) → refuses k ≡ quote w work (length l) r → QuotedAs (refuses k) l
  unfolding answer_of path_after
  refusal_quoted k is = quoted_as (refuses k) is (refuses k) refl l refl

-- ---- an admission's return: the area after as well
module _ (w : List ℕ) (work : ℕ) (l : List ℕ) (c : ℕ) (r : Request) where
  -- what the contract says of an answer `said`, a buffer l' and an area w'
  abbrev pub AdmittedAs : Reply Numbers → List ℕ → List ℕ → Type 0
  AdmittedAs said l' w' =
      let a = admission w work (length l) c r in
      (said ≡ answer_of a) × ((l' ≡ path_after a l) × ((w' ≡ booked w c r.terms.units a) × AdmissionMeans w work l c r said l' w'))

  -- it holds by any reply that is the admission's
  pub admitted_as : (a : PathReply) → a ≡ admission w work (length l) c r → (said : Reply Numbers) → said ≡ answer_of a
      → (l' : List ℕ) → l' ≡ path_after a l
      → (w' : List ℕ) → w' ≡ booked w c r.terms.units a
      → AdmittedAs said l' w'
  admitted_as a is said answers l' holds w' stored =
      let b = admission w work (length l) c r in
      let answers' = answers ∙ ap answer_of is in
      let holds' = holds ∙ ap (λ (b : PathReply). path_after b l) is in
      let stored' = stored ∙ ap (booked w c r.terms.units) is in (
        answers',
        (
          holds',
          (
            stored',
            record {
              reply = b;
              allowed = admission_means w work (length l) r c;
              answer = answers';
              path = holds';
              area = subst (AreaBooked w c r.terms.units b) (sym stored') (admitted_area w work (length l) c r);
            },
          ),
        ),
      )

  -- a refusal answers its number and changes no lent word
  pub refusal_admitted : (k : ℕ) → refuses k ≡ admission w work (length l) c r → AdmittedAs (refuses k) l w
  unfolding answer_of path_after booked
  refusal_admitted k is = admitted_as (refuses k) is (refuses k) refl l refl w refl

-- ---- a release's return: the answer, the area after and the meaning
module _ (w : List ℕ) (c : ℕ) where
  abbrev pub ClearedAs : ReleaseReply → List ℕ → Type 0
  ClearedAs said w' = (said ≡ release w c) × ((w' ≡ cleared w c (release w c)) × ReleaseMeans w c said w')

  pub cleared_as : (said : ReleaseReply) → said ≡ release w c → (w' : List ℕ) → w' ≡ cleared w c said → ClearedAs said w'
  cleared_as said is w' stored =
      let stored' = stored ∙ ap (cleared w c) is in (
        is,
        (
          stored',
          record {
            allowed = subst (Cleared w c) (sym is) (release_means w c);
            area = subst (λ (a : ReleaseReply). AreaCleared w c a w') (sym is) (subst (AreaCleared w c (release w c)) (sym stored') (released_area w c));
          },
        ),
      )
