-- Two runs that are given the same answers and files come out alike.
use Rattle.std.proofs.Common.{◌≡◌, refl, sym, ap, ap₂, subst, nat_le, length, if◌then◌else◌, ◌∙◌, ℕ, suc, List, [], ◌∷◌, map, Result, Ok, Err, Option, is_some}
use Rattle.std.proofs.Math.Path.{fun_ext}
use Rattle.std.proofs.lemmas.List.Sorted.{IsPermutation-map}
use Rattle.std.specs.List.Sorted.{IsPermutation}
use Rattle.std.specs.Option.{option_map}
use Rattle.answer_source.proofs.Replaying.{given_exactly}
use Rattle.answer_source.specs.Live.{asking_seen, capture_of, kept_seen, file_seen}
use Rattle.answer_source.specs.Sources.{ask_seen, given_seen}
use Rattle.capture.specs.Answers.{given_if}
use Rattle.capture.specs.Files.{file_at}
use Rattle.capture.specs.declared.answer.Ask.{Ask as Question}
use Rattle.capture.specs.declared.answer.Ask.TheVariants.{Time, Word, Line}
use Rattle.capture.specs.Capture.{CaptureView, is_among}
use Rattle.capture.specs.declared.ended.Ended.{Ended as EndedRun}
use Rattle.capture.specs.declared.ended.FileOut.{FileOut}
use Rattle.capture.specs.declared.ended.RunEnd.{RunEnd as EndTold}
use Rattle.capture.specs.declared.ended.RunEnd.TheVariants.{Finished, Raised, Spent}
use Rattle.op_state.specs.Finals.{file_out}
use Rattle.op_state.specs.Uncaught.{class_raised, text_raised}
use Rattle.prov_base.specs.declared.refusal.Memory.{Memory}
use Rattle.prov_base.specs.declared.place.Pos.{Pos}
use Rattle.py_model.specs.Act.{Act, Walked, ret, stop, perform, begin, close, enter, leave}
use Rattle.py_model.specs.Capture.{Capture, Telling, given_in, found_in, answers_at}
use Rattle.py_model.specs.Effect.{Answers, effect}
use Rattle.py_model.specs.Meaning.{RunEnd, finished, uncaught, out_of_steps, unanswered_run, end_in, meaning, starting, run_of}
use Rattle.py_model.specs.Moment.{leaves, ends}
use Rattle.py_model.specs.Operations.{Op, plan}
use Rattle.py_model.specs.Plan.{Answer, Ask, time, word, line as line_asked, Found, Given}
use Rattle.py_value.specs.Contents.{Contents}
use Rattle.py_model.specs.Running.{State, Ended, spent, lacking, state_in, outcome, operation, Happened, did, too_dear, lacked, beginning, entering, tell, happened, note, askings_at}
use Rattle.py_tree.specs.Tree.{ScriptTree}
use Rattle.run_engine.specs.Bare.{EndsAs, IsEnded, RunsBare}
use Rattle.recorded_runs.specs.declared.recording.Recorded.{Recorded}
use Rattle.recorded_runs.specs.RecordedRun.{RecordsRun, IsRecordedRun, IsBareOf, IsRunOf, ArePagesOf, PutsInOrder, ComeOutAlike, with_capture}

pub bare_of : (script : ScriptTree) (path : List ℕ) (arguments : List (List ℕ)) (steps : ℕ) (before after : Telling) (result : Result Recorded Memory)
    → RecordsRun script path arguments steps before after result → IsBareOf script path arguments steps before after result
bare_of script path arguments steps before after (Ok it) (asked, so) = (asked, (so.in_order, so.runs))
bare_of script path arguments steps before after (Err want) so = so

-- ---- how a run ended is told in one way

abbrev which : RunEnd → ℕ
which finished = 0
which (uncaught o line) = 1
which out_of_steps = 2
which unanswered_run = 3

abbrev object_in : RunEnd → ℕ
object_in (uncaught o line) = o
object_in other = 0

abbrev line_in : RunEnd → ℕ
line_in (uncaught o line) = line
line_in other = 0

differ : (m n : ℕ) → (m ≡ n → ⊥) → (e one other : RunEnd) → which one ≡ m → which other ≡ n → e ≡ one → e ≡ other → ⊥
differ m n apart e one other first second is so = apart (sym first ∙ (ap which (sym is ∙ so) ∙ second))

raised_same : (class name : List ℕ) (line at : ℕ) (text words : Option (List ℕ)) → class ≡ name → line ≡ at → text ≡ words → Raised class line text ≡ Raised name at words
raised_same class name line at text words a b c =
    ap (λ x. Raised x line text) a ∙ (ap (λ x. Raised name x text) b ∙ ap (λ x. Raised name at x) c)

told_once : (e : Ended) (one other : EndTold) → EndsAs e one → EndsAs e other → one ≡ other
told_once e Finished Finished a b = refl
told_once e Spent Spent a b = refl
told_once e (Raised class line text) (Raised name at words) (o, (is, (class_is, text_is))) (p, (so, (name_is, words_are))) =
    let same : o ≡ p = ap object_in (sym is ∙ so) in
    raised_same class name line at text words
    (sym class_is ∙ (ap (λ x. class_raised (state_in e).store x) same ∙ name_is))
    (ap line_in (sym is ∙ so))
    (sym text_is ∙ (ap (λ x. text_raised (state_in e).store x) same ∙ words_are))
told_once e Finished (Raised name at words) a (p, (so, more)) = absurd (differ 0 1 (λ is. cc) (end_in e) finished (uncaught p at) refl refl a so)
told_once e Finished Spent a b = absurd (differ 0 2 (λ is. cc) (end_in e) finished out_of_steps refl refl a b)
told_once e Spent Finished a b = absurd (differ 2 0 (λ is. cc) (end_in e) out_of_steps finished refl refl a b)
told_once e Spent (Raised name at words) a (p, (so, more)) = absurd (differ 2 1 (λ is. cc) (end_in e) out_of_steps (uncaught p at) refl refl a so)
told_once e (Raised class line text) Finished (o, (is, more)) b = absurd (differ 1 0 (λ is. cc) (end_in e) (uncaught o line) finished refl refl is b)
told_once e (Raised class line text) Spent (o, (is, more)) b = absurd (differ 1 2 (λ is. cc) (end_in e) (uncaught o line) out_of_steps refl refl is b)

-- ---- files are told in one way

abbrev first_of : List ℕ × List ℕ → List (List ℕ × List ℕ) → List ℕ × List ℕ
first_of other [] = other
first_of other (file ∷ files) = file

abbrev behind : List (List ℕ × List ℕ) → List (List ℕ × List ℕ)
behind [] = []
behind (file ∷ files) = files

abbrev file_from : List ℕ × List ℕ → FileOut
file_from file = record { path = file.0; bytes = file.1 }

files_once : (files others : List FileOut) → map file_out files ≡ map file_out others → files ≡ others
files_once [] [] is = refl
files_once [] (other ∷ others) is = cc
files_once (file ∷ files) [] is = cc
files_once (file ∷ files) (other ∷ others) is =
    ap₂ (λ (f : FileOut) fs. f ∷ fs) (ap (λ fs. file_from (first_of (file_out file) fs)) is) (files_once files others (ap behind is))

-- ---- a run is by what is kept, and not by what devices tell at its end

module _ (one other : Capture) (same : (at : Pos) (op : Op) (values : List Contents) (s : State) → operation one at op values s ≡ operation other at op values s) where
  outcome_same : (a : Act) (s : State) → outcome one a s ≡ outcome other a s
  outcome_same (ret how) s = refl
  outcome_same stop s = refl
  outcome_same (perform at op values next) s = by_happened (operation one at op values s) (λ answer came t. outcome_same (next answer came) t)
      ∙ ap (λ h. elim h [ did answer came t ↦ outcome other (next answer came) t | too_dear t ↦ spent t | lacked t ↦ lacking t ]) (same at op values s)
    where
      by_happened : (h : Happened) → ((answer : Answer) (came : Walked) (t : State) → outcome one (next answer came) t ≡ outcome other (next answer came) t)
          → ◌≡◌ {A = Ended} (elim h [ did answer came t ↦ outcome one (next answer came) t | too_dear t ↦ spent t | lacked t ↦ lacking t ])
          (elim h [ did answer came t ↦ outcome other (next answer came) t | too_dear t ↦ spent t | lacked t ↦ lacking t ])
      by_happened (did answer came t) on = on answer came t
      by_happened (too_dear t) on = refl
      by_happened (lacked t) on = refl
  outcome_same (begin number rest) s = ap (λ e. if nat_le 1 s.left then e else spent s) (outcome_same rest (beginning number s))
  outcome_same (close number ended rest) s = outcome_same rest (tell (ends number ended) s)
  outcome_same (enter at def names values next) s =
      ap (λ e. if nat_le (suc (length values)) s.left then e else spent s) (outcome_same (next (suc s.entered)) (entering at def names values s))
  outcome_same (leave v rest) s = outcome_same rest (tell (leaves v) s)

-- what is given under each place and number, and what was found
module _ (one other : Capture) (given : (what : Ask) (at : Pos) (k : ℕ) → given_in one.answers what at k ≡ given_in other.answers what at k) (files : one.files ≡ other.files) where
  abbrev answers_with : (Ask → Option Given) → List (List ℕ × Found) → Answers
  answers_with g fs = record { given = g; found = found_in fs }

  answers_same : (at : Pos) (k : ℕ) → answers_at one at k ≡ answers_at other at k
  answers_same at k =
      ap₂ (λ (g : Ask → Option Given) (fs : List (List ℕ × Found)). answers_with g fs) (fun_ext (λ what. given what at k)) files

  operation_same : (at : Pos) (op : Op) (values : List Contents) (s : State) → operation one at op values s ≡ operation other at op values s
  operation_same at op values s =
      ap (λ (answers : Answers).
      if nat_le 1 s.left
      then (let e = effect s.store answers (plan op values) in happened at op values e e.outcome (note at (suc (askings_at at s.askings)) e.touches s))
      else too_dear s)
      (answers_same at (suc (askings_at at s.askings)))

module _ (script : ScriptTree) (path : List ℕ) (arguments : List (List ℕ)) (steps : ℕ) where
  abbrev outcome_in : Capture → Ended
  outcome_in capture = outcome capture (meaning script steps) (starting capture path arguments steps)

  kept_alike : (one other : Capture) → ((what : Ask) (at : Pos) (k : ℕ) → given_in one.answers what at k ≡ given_in other.answers what at k) → one.files ≡ other.files → outcome_in one ≡ outcome_in other
  kept_alike one other given files =
      outcome_same one other (operation_same one other given files) (meaning script steps) (starting one path arguments steps)
      ∙ ap (λ (fs : List (List ℕ × Found)). outcome other (meaning script steps) (starting (record { answers = other.answers; files = fs; ends = one.ends }) path arguments steps)) files

  come_alike : (one other : Capture) (it plain : EndedRun) → outcome_in one ≡ outcome_in other → IsEnded script path arguments steps one it → IsEnded script path arguments steps other plain
      → ComeOutAlike it plain
  come_alike one other it plain same first second = record {
    end = told_once (outcome_in other) it.end plain.end (subst (λ e. EndsAs e it.end) same first.end_is) second.end_is;
    steps = sym first.steps_are ∙ (ap (λ e. (run_of steps e).steps) same ∙ second.steps_are);
    output = sym first.output_is ∙ (ap (λ e. (run_of steps e).output) same ∙ second.output_is);
    finals = files_once it.finals.items plain.finals.items (sym first.finals_are ∙ (ap (λ e. (run_of steps e).finals) same ∙ second.finals_are));
  }

  pub alike : (before after earlier later : Telling) (asked : CaptureView) (it : Recorded) (plain : EndedRun)
      → IsRecordedRun script path arguments steps before after asked it → RunsBare script path arguments steps earlier later (Ok plain)
      → asked.answers ≡ plain.capture.answers → asked.files ≡ plain.capture.files → ComeOutAlike it.ended plain
  alike before after earlier later asked it plain so bare answers files =
      let same = kept_alike (capture_of asked after) (capture_of plain.capture later) (λ what at k. ap (λ all. given_in (map kept_seen all) what at k) answers) (ap (map file_seen) files) in
      let both = come_alike (capture_of asked after) (capture_of plain.capture later) (with_capture it.ended asked) plain same so.runs.1 bare.1 in
      record { end = both.end; steps = both.steps; output = both.output; finals = both.finals }

  -- ---- the capture that is kept

  found_same : (asked kept : CaptureView) → PutsInOrder asked kept → (what : Question) (at : Pos) (k : ℕ)
      → given_in (map kept_seen kept.answers) (ask_seen what) at k ≡ given_in (map kept_seen asked.answers) (ask_seen what) at k
  found_same asked kept so what at k =
      given_exactly what at k kept.answers so.kept_once ∙ (ap (λ found. option_map given_seen (given_if what found)) (so.found at k) ∙ sym (given_exactly what at k asked.answers so.asked_once))

  given_same : (asked kept : CaptureView) → PutsInOrder asked kept → (what : Ask) (at : Pos) (k : ℕ)
      → given_in (map kept_seen kept.answers) what at k ≡ given_in (map kept_seen asked.answers) what at k
  given_same asked kept so time at k = found_same asked kept so Time at k
  given_same asked kept so word at k = found_same asked kept so Word at k
  given_same asked kept so line_asked at k = found_same asked kept so Line at k

  pub has_run : (before after later : Telling) (asked : CaptureView) (it : Recorded) → IsRecordedRun script path arguments steps before after asked it
      → IsRunOf script path arguments steps (capture_of it.ended.capture later) it
  has_run before after later asked it so =
      let files : it.ended.capture.files ≡ asked.files = ap (λ (c : CaptureView). c.files) so.in_order.rest in
      let same : outcome_in (capture_of it.ended.capture later) ≡ outcome_in (capture_of asked after) =
      kept_alike (capture_of it.ended.capture later) (capture_of asked after) (given_same asked it.ended.capture so.in_order) (ap (map file_seen) files) in
      let is : IsEnded script path arguments steps (capture_of asked after) (with_capture it.ended asked) = so.runs.1 in
      record {
        end_is = subst (λ e. EndsAs e it.ended.end) (sym same) is.end_is;
        steps_are = ap (λ e. (run_of steps e).steps) same ∙ is.steps_are;
        output_is = ap (λ e. (run_of steps e).output) same ∙ is.output_is;
        finals_are = ap (λ e. (run_of steps e).finals) same ∙ is.finals_are;
        pages = subst (λ e. ArePagesOf (run_of steps e).moments it.pages) (sym same) so.pages;
        asked = subst (λ all. IsPermutation all (map asking_seen it.ended.capture.answers)) (sym (ap (λ e. (run_of steps e).asked) same ∙ is.asked_are))
            (IsPermutation-map asking_seen asked.answers it.ended.capture.answers so.in_order.permuted);
        fetched = λ one. ap (λ e. is_among one (state_in e).fetches) same ∙ (is.fetched_are one ∙ ap (λ fs. is_some (file_at fs one)) (sym files));
      }
