-- The cases of all jobs in one call hold: the replies are computed for all of them at once, and what they mean follows by
-- proofs/Jobs.antt of `rules`.
-- Assumes nothing.
use Prim.Native.Nat.{ℕ, ◌*◌, ◌≤◌}
use mathlib.Core.Path.{◌≡◌, refl, sym, ap, ap₂, ◌∙◌}
use mathlib.Core.Bool.{Bool, true}
use mathlib.Core.List.{List, [], ◌∷◌, ◌++◌, map, head-eq_of_cons-eq, tail-eq_of_cons-eq}
use lib.Dec.{leb}
use lib.ListN.{length, drop, length-map}
use borrow.Author.Tests.{le-leb}
use Rattle.network.specs.Limits.{work_words}
use Rattle.network.specs.Lists.{All, from, joined}
use Rattle.network.specs.Loops.{every, iter, first}
use Rattle.network.specs.Scale.{scaled}
use Rattle.network.specs.Cut.{noted, follow}
use Rattle.network.specs.Reduce.{problem_one, problem_two}
use Rattle.search.specs.ebf.Table.{cell, cells, filled, initialised, improved, relaxed, offered, column, round, rounds, ebf}
use Rattle.search.specs.ebf.Trace.{step_back, place_back, traced}
use Rattle.search.specs.ebf.Solve.{path_in, answer_in, solve_in, solve}
use Rattle.search.specs.Distance.{spread, layer, distance}
use Rattle.search.specs.Heuristic.{tried, search}
use Rattle.search.specs.Result.{outcome}
use Rattle.area.specs.Station.{links_in, held_words, table_in, circuit_of, station}
use Rattle.area.specs.Books.{free}
use Rattle.area.specs.Formed.{well_formed}
use Rattle.area.specs.Refusals.{refuses, grants}
use Rattle.area.specs.Reads.{count_of}
use Rattle.area.proofs.Formed.{formed_says}
use Rattle.rules.specs.Calls.{admission, booked, cleared}
use Rattle.rules.specs.Jobs.{job_count, jobs_in, whole_jobs}
use Rattle.rules.specs.AdmitJobs.{JobReply, JobsReply, singly, all_booked, job_answers, answer_words, admit_jobs, jobs_booked, jobs_answered, JobsMean}
use Rattle.rules.proofs.Jobs.{jobs_formed, jobs_meant}
use Rattle.cases.specs.Document01.{net_b}
use Rattle.cases.specs.SteadyList.{net_a9}
use Rattle.cases.specs.OpeningJobs.{Told, list_of, replies_of, answers_of, net_o1, net_o2, JobCase, granted, refused, job_cases, area_left, Opens, JobCaseHolds}

-- ---- what is computed
-- of a granted call, but for its answer buffer, which is any: the test of its area and of its job list, the jobs' replies when they are
-- admitted singly, their words and how many there are, the circuits after and the units that are free then; of a refused one its reply
record Outcome : Type 0 where
  fits : Bool
  whole : Bool
  count : ℕ
  replies : List JobReply
  words : List ℕ
  held : List ℕ
  units : List ℕ
  refusal : JobsReply

abbrev computed : JobCase → Outcome
computed (granted k w js circuits units) =
    record {
      fits = well_formed w;
      whole = whole_jobs (list_of js);
      count = job_count (list_of js);
      replies = singly w work_words (jobs_in (list_of js));
      words = job_answers (replies_of js);
      held = held_words (all_booked w (replies_of js));
      units = from (free (station (all_booked w (replies_of js)))) 0 (links_in w);
      refusal = refuses 0;
    }
computed (refused k w work jobs n refusal) =
    record { fits = true; whole = true; count = 0; replies = []; words = []; held = []; units = []; refusal = admit_jobs w work jobs n }

-- and what the case says of these
abbrev expected : JobCase → Outcome
expected (granted k w js circuits units) =
    record {
      fits = true;
      whole = true;
      count = length js;
      replies = replies_of js;
      words = answers_of js;
      held = joined circuits;
      units = units;
      refusal = refuses 0;
    }
expected (refused k w work jobs n refusal) =
    record { fits = true; whole = true; count = 0; replies = []; words = []; held = []; units = []; refusal = refuses refusal }

outcomes : map computed job_cases ≡ map expected job_cases
unfolding job_cases net_a9 net_b net_o1 net_o2 singly all_booked job_answers admit_jobs jobs_booked jobs_answered admission booked cleared table_in circuit_of outcome search tried solve solve_in answer_in path_in ebf rounds round column offered relaxed improved initialised filled cell cells traced step_back place_back noted follow distance layer spread problem_one problem_two scaled iter first every
outcomes = refl

-- ---- what it means
-- a granted call: with an answer buffer that is long enough every check passes
module _ (w : List ℕ) (js : List Told) (circuits : List (List ℕ)) (units : List ℕ) (e : computed (granted 0 w js circuits units) ≡ expected (granted 0 w js circuits units))
    (l : List ℕ) (long : 36 * length js ≤ length l) where
  well : well_formed w ≡ true
  well = ap (λ (o : Outcome). o.fits) e

  count : job_count (list_of js) ≡ length js
  count = ap (λ (o : Outcome). o.count) e

  replies : admit_jobs w work_words (list_of js) (length l) ≡ grants (replies_of js)
  unfolding admit_jobs
  replies =
      let whole : whole_jobs (list_of js) ≡ true = ap (λ (o : Outcome). o.whole) e in
      let room : leb (answer_words * job_count (list_of js)) (length l) ≡ true = rw count (le-leb (36 * length js) (length l) long) in
      rw (well, whole, room) (ap (λ (rs : List JobReply). grants rs) (ap (λ (o : Outcome). o.replies) e))

  -- the area after it, and the answer buffer
  left : area_left w (list_of js) (length l) ≡ all_booked w (replies_of js)
  unfolding jobs_booked
  left = ap (jobs_booked w) replies

  answered : answers_of js ++ drop (36 * length js) l ≡ jobs_answered (admit_jobs w work_words (list_of js) (length l)) l
  unfolding jobs_answered
  answered =
      ap₂ (λ (a : List ℕ) (n : ℕ). a ++ drop (36 * n) l) (sym (ap (λ (o : Outcome). o.words) e)) (sym (length-map js _))
      ∙ ap (λ (a : JobsReply). jobs_answered a l) (sym replies)

  opens : Opens w js circuits units l
  opens =
      record {
        replies = replies;
        means =
            jobs_meant w work_words (list_of js) l (grants (length js))
            (ap (λ (n : ℕ). grants n) (sym (length-map js _)) ∙ ap count_of (sym replies))
            (answers_of js ++ drop (36 * length js) l) answered (area_left w (list_of js) (length l)) refl;
        formed = jobs_formed w work_words (list_of js) (length l) (formed_says w well);
        words = ap held_words left ∙ ap (λ (o : Outcome). o.held) e;
        free_units = ap (λ (v : List ℕ). from (free (station v)) 0 (links_in w)) left ∙ ap (λ (o : Outcome). o.units) e;
      }

-- a refused one
refused_holds : (w : List ℕ) (work : ℕ) (jobs : List ℕ) (k : ℕ) (l : List ℕ) → admit_jobs w work jobs (length l) ≡ refuses k
    → JobsMean w work jobs l (refuses k) l w
unfolding jobs_booked jobs_answered
refused_holds w work jobs k l e =
    jobs_meant w work jobs l (refuses k) (ap count_of (sym e)) l (ap (λ (a : JobsReply). jobs_answered a l) (sym e)) w
    (ap (jobs_booked w) (sym e))

holds : (c : JobCase) → computed c ≡ expected c → JobCaseHolds c
holds (granted k w js circuits units) e = opens w js circuits units e
holds (refused k w work jobs n refusal) e =
    λ l long. refused_holds w work jobs refusal l (ap (admit_jobs w work jobs) long ∙ ap (λ (o : Outcome). o.refusal) e)

-- one equation of two lists, as a statement of each case
each : (l : List JobCase) → map computed l ≡ map expected l → All JobCaseHolds l
each [] e = tt
each (c ∷ l) e = (holds c (head-eq_of_cons-eq e), each l (tail-eq_of_cons-eq e))

pub all_job_cases : All JobCaseHolds job_cases
all_job_cases = each job_cases outcomes
