-- All jobs in one call, as the code goes through them: what the head of an answer says, one admission with the free units kept up, and
-- what one job more adds to the replies, the area and the answers.
-- Assumes nothing.
use Prim.Native.Nat.{ℕ, suc, ◌+◌, ◌*◌, ◌-◌, ◌≤◌, ◌<◌}
use mathlib.Core.Path.{◌≡◌, refl, sym, ap, ◌∙◌, subst}
use mathlib.Core.Bool.{true, false, cond}
use mathlib.Core.List.{List, [], ◌∷◌, ◌++◌, append_assoc, append-nil}
use native.Mathlib.Nat.{zero-add}
use native.Mathlib.Numerals.{add-one}
use native.Mathlib.Omega.{arith}
use lib.ListN.{length, get_or, drop, length-append}
use lib.Seq.{drop-drop, take-append_seam, drop-append_seam}
use borrow.Rule.Slice.PartMut.{put_mid}
use Rattle.network.specs.Limits.{most_links}
use Rattle.network.specs.Lists.{All, memb, Distinct, from}
use Rattle.network.specs.Reduce.{problem_number}
use Rattle.network.specs.declared.Request.{Request}
use Rattle.network.specs.declared.Grant.{Grant as Numbers}
use Rattle.network.proofs.Listed.{from_length, from_more}
use Rattle.network.proofs.Tests.{by_bool, zero_one}
use Rattle.area.specs.Station.{Station, station, words_at}
use Rattle.area.specs.Books.{free}
use Rattle.area.specs.Formed.{PathOf, well_formed}
use Rattle.area.specs.FreeIn.{free_in}
use Rattle.area.specs.Units.{enough, taken}
use Rattle.area.specs.Refusals.{Reply, refuses, grants}
use Rattle.area.specs.Checks.{checked}
use Rattle.area.specs.Reads.{count_of}
use Rattle.area.proofs.Checks.{refused_first, granted_first, all_pass}
use Rattle.area.proofs.Formed.{formed_says, formed_test}
use Rattle.area.proofs.Order.{usage_placed}
use Rattle.area.proofs.PathTest.{path_links_differ, path_links_below}
use Rattle.area.proofs.Taken.{taken_at, enough_fails}
use Rattle.area.proofs.ReadCases.{formed_free}
use Rattle.area.proofs.WordsAt.{words_front}
use Rattle.rules.specs.Replies.{PathGrant, PathReply, answer_of, path_after}
use Rattle.rules.specs.Calls.{admission, booked}
use Rattle.rules.specs.Meaning.{circuit_for}
use Rattle.rules.specs.declared.Job.{Job}
use Rattle.rules.specs.Jobs.{job_at, job_count, jobs_in}
use Rattle.rules.specs.AdmitJobs.{JobReply, JobsReply, answer_words, admit_job, job_booked, singly, all_booked, head_words, job_answer, job_answers, job_list_checks, jobs_checked, admit_jobs, jobs_booked, jobs_answered, JobsMean}
use Rattle.rules.proofs.Jobs.{answers_long, jobs_meant}
use Rattle.rules.proofs.Bookings.{admitted_fits, admitted_free, admitted_station, admitted_formed}
use Rattle.rules.proofs.Granting.{unstored}

-- ---- the head of an answer
-- what the code's enum says of a reply decides the words in front of the path's
pub head_granted : (g : Numbers) (x : ℕ) → x ≡ problem_number g.problem → (a : PathReply) → grants g ≡ answer_of a
    → 0 ∷ x ∷ g.delay ∷ g.cost ∷ g.links ∷ [] ≡ head_words a
unfolding answer_of
head_granted g x is (refuses k) e = absurd (zero_one cc)
head_granted g x is (grants h) e = let same : g ≡ record { problem = h.problem; delay = h.delay; cost = h.cost; links = length h.path } = cc in rw (is, same) refl

pub head_refused : (k x : ℕ) → x ≡ k → (a : PathReply) → refuses k ≡ answer_of a → x ∷ 0 ∷ 0 ∷ 0 ∷ 0 ∷ [] ≡ head_words a
unfolding answer_of
head_refused k x is (refuses j) e = let same : k ≡ j = cc in rw (is, same) refl
head_refused k x is (grants h) e = absurd (zero_one cc)

-- ---- a granted path in the path buffer
-- a grant as the code's enum has it
granted_by : (g : Numbers) (a : PathReply) → grants g ≡ answer_of a → (h : PathGrant) × (a ≡ grants h) × (g.links ≡ length h.path)
unfolding answer_of
granted_by g (refuses k) e = absurd (zero_one cc)
granted_by g (grants h) e = (h, refl, cc)

-- its path is read back
read_back : (h : PathGrant) (l : List ℕ) → words_at (path_after (grants h) l) 0 (length h.path) ≡ h.path
unfolding path_after
read_back h l = words_front h.path (drop (length h.path) l)

fits_buffer : (h : PathGrant) (l : List ℕ) → length h.path ≤ length (path_after (grants h) l)
unfolding path_after
fits_buffer h l = rw (length-append h.path (drop (length h.path) l)) (omega arith)

-- ---- one admission
module _ (w : List ℕ) (work path c : ℕ) (r : Request) (formed : well_formed w ≡ true) where
  -- it leaves the area well formed
  pub stays_formed : (w' : List ℕ) → w' ≡ booked w c r.terms.units (admission w work path c r) → well_formed w' ≡ true
  stays_formed w' is = rw is (formed_test _ (admitted_formed w work path c r (formed_says w formed)))

  module _ (units : List ℕ) (count : (i : ℕ) → get_or units i 0 ≡ free_in w i) where
    -- a refused one leaves the free units as they are
    pub refused_units : (k : ℕ) → refuses k ≡ answer_of (admission w work path c r)
        → (w' : List ℕ) → w' ≡ booked w c r.terms.units (admission w work path c r)
        → (i : ℕ) → get_or units i 0 ≡ free_in w' i
    refused_units k e w' is i =
        count i ∙ ap (λ (v : List ℕ). free_in v i) (unstored w c r.terms.units k (admission w work path c r) e ∙ sym is)

    -- a granted one takes its circuit's units of each link of the path, which had them
    module _ (h : PathGrant) (e : admission w work path c r ≡ grants h) where
      path_of_table : PathOf (station w).table h.path
      path_of_table = (admitted_fits w work path c r h e).path

      grant_links : All (λ (i : ℕ). i < most_links) h.path
      grant_links = path_links_below (station w).table most_links (formed_says w formed).sound.table.links_most h.path path_of_table

      once : Distinct h.path
      once = path_links_differ (station w).table h.path path_of_table

      grant_enough : enough r.terms.units h.path units ≡ true
      grant_enough =
          by_bool (enough r.terms.units h.path units) (λ q. q)
          (λ q. absurd (short (enough_fails r.terms.units h.path units once q)))
        where
          short : (k : ℕ) × (memb k h.path ≡ true) × (get_or units k 0 < r.terms.units) → ⊥
          short (k, on, low) = omega (arith, low, count k, formed_free w formed k, admitted_free w work path c r h e k on)

      left : (i : ℕ) → free_in (booked w c r.terms.units (grants h)) i ≡ free (station w) i - cond (memb i h.path) r.terms.units 0
      left i =
          formed_free (booked w c r.terms.units (grants h)) (stays_formed _ (ap (booked w c r.terms.units) (sym e))) i
          ∙ ap (λ (s : Station). free s i) (admitted_station w work path c r h e)
          ∙ omega (arith, usage_placed (circuit_for c r.terms.units h.path) (station w).held i)

      grant_units : (i : ℕ) → get_or (taken r.terms.units h.path units) i 0 ≡ free_in (booked w c r.terms.units (grants h)) i
      grant_units i = omega (arith, taken_at r.terms.units h.path units once i, count i, formed_free w formed i, left i)

    -- the same by the numbers that the code has, with the path as it stands in the buffer
    module _ (g : Numbers) (said : grants g ≡ answer_of (admission w work path c r)) (l l' : List ℕ) (holds : l' ≡ path_after (admission w work path c r) l) where
      grant : (h : PathGrant) × (admission w work path c r ≡ grants h) × (g.links ≡ length h.path)
      grant = granted_by g (admission w work path c r) said

      pub next_fits : g.links ≤ length l'
      next_fits =
          let long : length l' ≡ length (path_after (grants grant.0) l) = ap length (holds ∙ ap (λ a. path_after a l) grant.1) in
          omega (arith, grant.2, long, fits_buffer grant.0 l)

      module _ (p : List ℕ) (part : p ≡ words_at l' 0 g.links) where
        is_path : p ≡ grant.0.path
        is_path =
            part
            ∙ ap (λ (b : List ℕ). words_at b 0 g.links) (holds ∙ ap (λ (a : PathReply). path_after a l) grant.1)
            ∙ ap (words_at (path_after (grants grant.0) l) 0) grant.2
            ∙ read_back grant.0 l

        pub next_links : All (λ (i : ℕ). i < most_links) p
        next_links = subst (All (λ (i : ℕ). i < most_links)) (sym is_path) (grant_links grant.0 grant.1)

        pub next_enough : enough r.terms.units p units ≡ true
        next_enough = ap (λ (q : List ℕ). enough r.terms.units q units) is_path ∙ grant_enough grant.0 grant.1

        pub next_units : (units' : List ℕ) → units' ≡ taken r.terms.units p units
            → (w' : List ℕ) → w' ≡ booked w c r.terms.units (admission w work path c r)
            → (i : ℕ) → get_or units' i 0 ≡ free_in w' i
        next_units units' takes w' is i =
            ap (λ (q : List ℕ). get_or q i 0) (takes ∙ ap (λ (q : List ℕ). taken r.terms.units q units) is_path)
            ∙ grant_units grant.0 grant.1 i
            ∙ ap (λ (v : List ℕ). free_in v i) (sym (is ∙ ap (booked w c r.terms.units) grant.1))

-- ---- one job more
-- its reply is that of its admission on the area that the others leave
pub singly_more : (w : List ℕ) (work : ℕ) (js : List Job) (j : Job)
    → singly w work (js ++ j ∷ []) ≡ singly w work js ++ admit_job (all_booked w (singly w work js)) work j ∷ []
unfolding singly all_booked
singly_more w work [] j = refl
singly_more w work (i ∷ js) j =
    ap (λ (l : List JobReply). admit_job w work i ∷ l) (singly_more (job_booked w (admit_job w work i)) work js j)

-- the area that it leaves is the one after all
pub booked_more : (w : List ℕ) (rs : List JobReply) (a : JobReply) → all_booked w (rs ++ a ∷ []) ≡ job_booked (all_booked w rs) a
unfolding all_booked
booked_more w [] a = refl
booked_more w (b ∷ rs) a = booked_more (job_booked w b) rs a

-- its answer stands behind the others
pub answers_more : (rs : List JobReply) (a : JobReply) → job_answers (rs ++ a ∷ []) ≡ job_answers rs ++ job_answer a
unfolding job_answers
answers_more [] a = append-nil (job_answer a)
answers_more (b ∷ rs) a = ap (λ (l : List ℕ). job_answer b ++ l) (answers_more rs a) ∙ sym (append_assoc (job_answer b) (job_answers rs) (job_answer a))

-- as many replies as jobs
singly_long : (w : List ℕ) (work : ℕ) (js : List Job) → length (singly w work js) ≡ length js
unfolding singly
singly_long w work [] = refl
singly_long w work (j ∷ js) = ap suc (singly_long (job_booked w (admit_job w work j)) work js)

-- a store behind what is done, in a list of that and of words that are still to come
put_next : (x y a l : List ℕ) (at n : ℕ) → l ≡ x ++ y → at ≡ length x → put_mid at n l a ≡ (x ++ a) ++ drop n y
put_next x y a l at n is there =
    rw (is, there, take-append_seam x y, drop-append_seam x y) (sym (append_assoc x a (drop n y)))

-- ---- the code's way through the jobs
module _ (w : List ℕ) (work : ℕ) (words l : List ℕ) where
  -- the replies to the first k jobs
  abbrev pub first_replies : ℕ → List JobReply
  first_replies k = singly w work (from (job_at words) 0 k)

  replies_more : (k : ℕ) → first_replies (suc k) ≡ first_replies k ++ admit_job (all_booked w (first_replies k)) work (job_at words k) ∷ []
  replies_more k =
      ap (λ (js : List Job). singly w work js) (from_more (job_at words) 0 k)
      ∙ ap (λ (n : ℕ). singly w work (from (job_at words) 0 k ++ job_at words n ∷ [])) (zero-add k)
      ∙ singly_more w work (from (job_at words) 0 k) (job_at words k)

  replies_count : (k : ℕ) → length (first_replies k) ≡ k
  replies_count k = singly_long w work (from (job_at words) 0 k) ∙ from_length (job_at words) 0 k

  answered_long : (k : ℕ) → length (job_answers (first_replies k)) ≡ answer_words * k
  answered_long k =
      answers_long w work (from (job_at words) 0 k) ∙ ap (λ (n : ℕ). answer_words * n) (replies_count k)

  -- what it has past k jobs: this area, this answer buffer and these free units
  pub record Reached (k : ℕ) (w' l' left : List ℕ) : Type 0 where
    pub area : w' ≡ all_booked w (first_replies k)
    pub answers : l' ≡ job_answers (first_replies k) ++ drop (answer_words * k) l
    pub formed : well_formed w' ≡ true
    pub units : (i : ℕ) → get_or left i 0 ≡ free_in w' i

  -- at first
  pub reached_none : well_formed w ≡ true → (units : List ℕ) → ((i : ℕ) → get_or units i 0 ≡ free_in w i) → Reached 0 w l units
  unfolding singly all_booked job_answers
  reached_none formed units count = record { area = refl; answers = refl; formed = formed; units = count }

  -- past one job more
  pub reached_more : (k : ℕ) (w' l' units : List ℕ) → Reached k w' l' units
      → (n : ℕ) → n ≡ work
      → (j : Job) → j ≡ job_at words k
      → (a : List ℕ) → a ≡ job_answer (admit_job w' n j)
      → (w'' : List ℕ) → w'' ≡ job_booked w' (admit_job w' n j)
      → (units' : List ℕ) → well_formed w'' ≡ true
      → ((i : ℕ) → get_or units' i 0 ≡ free_in w'' i)
      → (m : ℕ) → m ≡ answer_words
      → Reached (k + 1) w'' (put_mid (answer_words * k) m l' a) units'
  reached_more k w' l' units h n same j is a answers w'' leaves units' formed count m long =
      record { area = area; answers = buffer; formed = formed; units = count }
    where
      rs : List JobReply
      rs = first_replies k

      b : JobReply
      b = admit_job (all_booked w rs) work (job_at words k)

      reply : admit_job w' n j ≡ b
      reply = rw (h.area, same, is) refl

      more : first_replies (k + 1) ≡ rs ++ b ∷ []
      more = ap first_replies (add-one k) ∙ replies_more k

      area : w'' ≡ all_booked w (first_replies (k + 1))
      area =
          leaves
          ∙ ap (job_booked w') reply
          ∙ ap (λ (v : List ℕ). job_booked v b) h.area
          ∙ sym (booked_more w rs b)
          ∙ ap (all_booked w) (sym more)

      answered : job_answers rs ++ a ≡ job_answers (first_replies (k + 1))
      answered =
          ap (λ (d : List ℕ). job_answers rs ++ d) (answers ∙ ap job_answer reply)
          ∙ sym (answers_more rs b)
          ∙ ap job_answers (sym more)

      further : answer_words * k + m ≡ answer_words * (k + 1)
      further = omega (arith, long)

      buffer : put_mid (answer_words * k) m l' a ≡ job_answers (first_replies (k + 1)) ++ drop (answer_words * (k + 1)) l
      buffer =
          put_next (job_answers rs) (drop (answer_words * k) l) a l' (answer_words * k) m h.answers (sym (answered_long k))
          ∙ ap (λ (d : List ℕ). d ++ drop m (drop (answer_words * k) l)) answered
          ∙ ap (λ (d : List ℕ). job_answers (first_replies (k + 1)) ++ d) (drop-drop m (answer_words * k) l)
          ∙ ap (λ (d : ℕ). job_answers (first_replies (k + 1)) ++ drop d l) further

  -- ---- the call's returns
  -- what the contract says of an answer `said`, a buffer l' and an area w'
  abbrev pub JobsAs : Reply ℕ → List ℕ → List ℕ → Type 0
  JobsAs said l' w' =
      let a = admit_jobs w work words (length l) in
      (said ≡ count_of a) × ((l' ≡ jobs_answered a l) × ((w' ≡ jobs_booked w a) × JobsMean w work words l said l' w'))

  -- it holds by any reply that is the call's
  jobs_as : (a : JobsReply) → a ≡ admit_jobs w work words (length l) → (said : Reply ℕ) → said ≡ count_of a
      → (l' : List ℕ) → l' ≡ jobs_answered a l
      → (w' : List ℕ) → w' ≡ jobs_booked w a
      → JobsAs said l' w'
  jobs_as a is said answers l' holds w' leaves =
      let answers' = answers ∙ ap count_of is in
      let holds' = holds ∙ ap (λ (b : JobsReply). jobs_answered b l) is in
      let leaves' = leaves ∙ ap (jobs_booked w) is in
      (answers', (holds', (leaves', jobs_meant w work words l said answers' l' holds' w' leaves')))

  -- a refusal answers its number and changes no lent word
  refusal_jobs : (k : ℕ) → refuses k ≡ admit_jobs w work words (length l) → JobsAs (refuses k) l w
  unfolding jobs_booked jobs_answered
  refusal_jobs k is = jobs_as (refuses k) is (refuses k) refl l refl w refl

  -- an area that is not well formed
  pub jobs_unfit : well_formed w ≡ false → JobsAs (refuses 5) l w
  unfolding admit_jobs
  jobs_unfit e = refusal_jobs 5 (rw e refl)

  module _ (formed : well_formed w ≡ true) where
    jobs_is : checked refuses (job_list_checks work words (length l) ++ []) (grants (singly w work (jobs_in words))) ≡ admit_jobs w work words (length l)
    unfolding admit_jobs
    jobs_is = rw formed refl

    -- one of the other checks fails
    pub jobs_refused : (k : ℕ) → refuses k ≡ jobs_checked work words (length l) → JobsAs (refuses k) l w
    jobs_refused k e =
        refusal_jobs k
        (refused_first (job_list_checks work words (length l)) [] (grants (singly w work (jobs_in words))) (job_count words) k e ∙ jobs_is)

    module _ (n : ℕ) (passed : grants n ≡ jobs_checked work words (length l)) where
      counted : n ≡ job_count words
      counted =
          let e : grants (job_count words) ≡ grants n =
          (all_pass refuses (job_list_checks work words (length l)) (grants (job_count words)) (grants n) (λ k q. zero_one cc) (sym passed)).1 in
          cc

      -- past the last job
      pub jobs_done : (k : ℕ) → k ≡ n → (w' l' units : List ℕ) → Reached k w' l' units → JobsAs (grants n) l' w'
      unfolding jobs_booked jobs_answered
      jobs_done k is w' l' units h =
          let all : k ≡ job_count words = is ∙ counted in
          jobs_as (grants (singly w work (jobs_in words)))
          (granted_first (job_list_checks work words (length l)) [] (grants (singly w work (jobs_in words))) (job_count words) n refl passed ∙ jobs_is)
          (grants n) (ap (λ (m : ℕ). grants m) (counted ∙ sym (replies_count (job_count words))))
          l'
          (h.answers
          ∙ ap (λ (m : ℕ). job_answers (first_replies m) ++ drop (answer_words * m) l) all
          ∙ ap (λ (m : ℕ). job_answers (first_replies (job_count words)) ++ drop (answer_words * m) l) (sym (replies_count (job_count words))))
          w' (h.area ∙ ap (λ (m : ℕ). all_booked w (first_replies m)) all)
