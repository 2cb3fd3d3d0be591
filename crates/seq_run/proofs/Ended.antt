-- What a run says by its number, from what it says by its status.
use Rattle.std.proofs.Common.{◌≡◌, ◌≢◌, ◌≤◌, ◌⊎◌, ℕ, zero, suc, List, [], ◌∷◌, Option, Some, Result, Ok, Err, IsErr, inl, inr, refl, sym, ap, ◌∙◌, subst, arith}
use Rattle.seq_io.specs.Taken.{Wrote}
use Rattle.seq_io.specs.Views.{ShelfView, SinkView}
use Rattle.seq_io.specs.declared.mem_file.MemFile.{MemFile}
use Rattle.run_files.specs.Causes.{Refuses}
use Rattle.run_lines.specs.Messages.{line_of}
use Rattle.seq_run.specs.Printed.{Answers}
use Rattle.seq_run.specs.Premises.{AsksTrial, HasEnough, HasFaultyPlan, HasFaultlessPlan, HasNoPlan, IsUnusable, IsUsable}
use Rattle.seq_run.specs.Runs.{AskedEnds, RunEnds, IsAnswered, IsTried, TrialEnds}
use Rattle.seq_run.specs.Statuses.{IsOneOf, code_of, status_of}
use Rattle.run_files.specs.Stops.{Explains, IsUntouched, WantsMemory}
use Rattle.run_files.specs.Words.{Asks, Tries, requested}
use Rattle.seq_words.specs.declared.command.Words.{Words}
use Rattle.seq_words.specs.declared.command.Words.TheVariants as Refusals
use Rattle.seq_run.specs.declared.status.Status.{Status}
use Rattle.seq_run.specs.declared.status.Status.TheVariants.{Answered, WrongWords, ReadFault, WrongFile, WriteFault, NoMemory}
use Rattle.seq_run.specs.declared.status.Verdict.{Verdict}
use Rattle.seq_run.specs.declared.status.Verdict.TheVariants.{Done, Fault, NoPlan, Open, Undecided}
use Rattle.run_files.specs.declared.stop.Stop.{Stop}
use Rattle.run_files.specs.declared.stop.Stop.TheVariants.{Read, Input, Memory}
use Rattle.run_files.specs.declared.words.Asked.{Asked}
use Rattle.run_files.specs.declared.words.Request.{Request}
use Rattle.run_files.specs.declared.words.Request.TheVariants.{OfFiles, Trial}
use Rattle.run_files.specs.Laws.Exact.{refused_files-unusable}
use Rattle.seq_run.proofs.Found.{IsSearched, done_faulty, done_none, fault_faultless, fault_sought, open_enough, open_none, searched_faulty, searched_faultless, undecided_enough}

-- the status of a number
abbrev pub status_at : ℕ → Status
status_at zero = Answered Done
status_at (suc zero) = Answered NoPlan
status_at (suc (suc zero)) = WrongWords
status_at (suc (suc (suc zero))) = ReadFault
status_at (suc (suc (suc (suc zero)))) = WrongFile
status_at (suc (suc (suc (suc (suc zero))))) = Answered Open
status_at (suc (suc (suc (suc (suc (suc zero)))))) = Answered Undecided
status_at (suc (suc (suc (suc (suc (suc (suc zero))))))) = Answered Fault
status_at (suc (suc (suc (suc (suc (suc (suc (suc zero)))))))) = WriteFault
status_at n = NoMemory

status_at-code : (s : Status) → status_at (code_of s) ≡ s
status_at-code (Answered Done) = refl
status_at-code (Answered NoPlan) = refl
status_at-code (Answered Open) = refl
status_at-code (Answered Undecided) = refl
status_at-code (Answered Fault) = refl
status_at-code WrongWords = refl
status_at-code ReadFault = refl
status_at-code WrongFile = refl
status_at-code WriteFault = refl
status_at-code NoMemory = refl

-- what holds of the status holds of that of its number
pub at_number : (P : Status → Type 0) (s : Status) (r n : ℕ) → r ≡ code_of s → r ≡ n → P s → P (status_at n)
at_number P s r n code is h = subst P (sym (ap status_at (sym is ∙ code) ∙ status_at-code s)) h

-- the numbers that a run may end with
pub ends_once : (s : Status) → code_of s ≤ 9
ends_once (Answered Done) = omega arith
ends_once (Answered NoPlan) = omega arith
ends_once (Answered Open) = omega arith
ends_once (Answered Undecided) = omega arith
ends_once (Answered Fault) = omega arith
ends_once WrongWords = omega arith
ends_once ReadFault = omega arith
ends_once WrongFile = omega arith
ends_once WriteFault = omega arith
ends_once NoMemory = omega arith

-- what the words ask for is one thing
abbrev accepted : Asked → Result Request Words
accepted a = Ok (OfFiles a)

asked-one : (r : Result Request Words) (a b : Asked) → r ≡ Ok (OfFiles a) → r ≡ Ok (OfFiles b) → b ≡ a
asked-one r a b e f = inside b a (sym f ∙ e)
  where
    inside : (x y : Asked) → accepted x ≡ accepted y → x ≡ y
    inside x y same = cc

refused-asked : (r : Result Request Words) (x : Request) → IsErr r → r ≡ Ok x → ⊥
refused-asked (Ok b) x h e = absurd (cc h)
refused-asked (Err why) x h e = absurd (cc e)

usable : (files : Option (List MemFile)) (a : Asked) → HasNoPlan files a → IsUsable files a
usable files a n = record { inputs = n.inputs; usable = n.usable }

sufficient : (files : Option (List MemFile)) (a : Asked) → HasEnough files a → IsUsable files a
sufficient files a n = record { inputs = n.inputs; usable = n.usable }

faultless : (files : Option (List MemFile)) (a : Asked) → HasFaultlessPlan files a → IsUsable files a
faultless files a n = record { inputs = n.inputs; usable = n.usable }

faulty : (files : Option (List MemFile)) (a : Asked) → HasFaultyPlan files a → IsUsable files a
faulty files a n = record { inputs = n.inputs; usable = n.usable }

abbrev fine : Request → Result Request Words
fine x = Ok x

accepted-refused : (r : Result Request Words) (x : Request) (why : Words) → r ≡ Ok x → r ≡ Err why → ⊥
accepted-refused r x why p q = apart x why (sym p ∙ q)
  where
    apart : (x : Request) (why : Words) → fine x ≡ Err why → ⊥
    apart x why same = absurd (cc same)

asked-tried : (r : Result Request Words) (a : Asked) (objects seed : ℕ) → r ≡ Ok (OfFiles a) → r ≡ Ok (Trial objects seed) → ⊥
asked-tried r a objects seed p q = apart a objects seed (sym p ∙ q)
  where
    apart : (a : Asked) (k n : ℕ) → fine (OfFiles a) ≡ fine (Trial k n) → ⊥
    apart a k n same = absurd (cc same)

module _ (words : List (List ℕ)) (s s' : ShelfView) (e e' o o' : SinkView) where
  abbrev pub E : Status → Type 0
  E status = RunEnds words s s' e e' o o' status

  abbrev A : Verdict → Type 0
  A verdict = Asks words (λ a. IsAnswered verdict a s s' e e' o o')

  refused_words : (verdict : Verdict) → E (Answered verdict) → IsErr (requested words) → ⊥
  refused_words verdict (inl x) h = refused-asked (requested words) (OfFiles x.asked) h x.accepted
  refused_words verdict (inr x) h = refused-asked (requested words) (Trial x.0.objects x.0.seed) h x.0.accepted

  pub words_always : (status : Status) → E status → IsErr (requested words) → IsOneOf (2 ∷ 8 ∷ 9 ∷ []) (code_of status)
  words_always (Answered verdict) x h = absurd (refused_words verdict x h)
  words_always WrongWords x h = inl refl
  words_always ReadFault x h = absurd (refused-asked (requested words) (OfFiles x.0.asked) h x.0.accepted)
  words_always WrongFile x h = absurd (refused-asked (requested words) (OfFiles x.0.asked) h x.0.accepted)
  words_always WriteFault x h = inr (inl refl)
  words_always NoMemory x h = inr (inr refl)

  -- where the words name files, the answer is of these
  of_files : (verdict : Verdict) (P : Asked → Type 0) → E (Answered verdict) → Asks words P → A verdict
  of_files verdict P (inl x) n = x
  of_files verdict P (inr x) n = absurd (asked-tried (requested words) n.asked x.0.objects x.0.seed n.accepted x.0.accepted)

  -- whoever needs the files can't have refused one of them
  not_refused : (files : List MemFile) → s.files ≡ Some files → E WrongFile → Asks words (IsUsable (Some files)) → ⊥
  not_refused files told x u =
      let same = asked-one (requested words) x.0.asked u.asked x.0.accepted u.accepted in
      let there = subst (λ fs. Refuses fs x.0.asked x.0.so.file x.0.so.cause) told x.0.so.refused.refused in
      let now = subst (IsUsable (Some files)) same u.so in
      refused_files-unusable files x.0.asked now.inputs x.0.so.file x.0.so.cause there now.usable

  answers_told : (verdict : Verdict) (files : List MemFile) → s.files ≡ Some files → (x : A verdict) → Answers (Some files) x.asked verdict x.so.notes x.so.text
  answers_told verdict files told x = subst (λ fs. Answers fs x.asked verdict x.so.notes x.so.text) told x.so.answers

  -- what is said of the files, of the words that this run had
  here : (P : Asked → Type 0) (verdict : Verdict) → (x : A verdict) → (n : Asks words P) → P x.asked
  here P verdict x n = subst P (asked-one (requested words) x.asked n.asked x.accepted n.accepted) n.so

  pub none_always : (status : Status) → E status → (files : List MemFile) → s.files ≡ Some files → Asks words (HasNoPlan (Some files)) → IsOneOf (1 ∷ 3 ∷ 6 ∷ 8 ∷ 9 ∷ []) (code_of status)
  none_always (Answered Done) x files told n = (let y = of_files Done (HasNoPlan (Some files)) x n in absurd (done_none files y.asked y.so.notes y.so.text (here (HasNoPlan (Some files)) Done y n) (answers_told Done files told y)))
  none_always (Answered NoPlan) x files told n = inl refl
  none_always (Answered Open) x files told n = (let y = of_files Open (HasNoPlan (Some files)) x n in absurd (open_none files y.asked y.so.notes y.so.text (here (HasNoPlan (Some files)) Open y n) (answers_told Open files told y)))
  none_always (Answered Undecided) x files told n = inr (inr (inl refl))
  none_always (Answered Fault) x files told n = (let y = of_files Fault (HasNoPlan (Some files)) x n in absurd (fault_sought files y.asked y.so.notes y.so.text (here (HasNoPlan (Some files)) Fault y n).arranges (answers_told Fault files told y)))
  none_always WrongWords x files told n = absurd (accepted-refused (requested words) (OfFiles n.asked) x.0.why n.accepted x.0.refused)
  none_always ReadFault x files told n = inr (inl refl)
  none_always WrongFile x files told n = absurd (not_refused files told x (record { asked = n.asked; accepted = n.accepted; so = usable (Some files) n.asked n.so }))
  none_always WriteFault x files told n = inr (inr (inr (inl refl)))
  none_always NoMemory x files told n = inr (inr (inr (inr refl)))

  pub decided_always : (status : Status) → E status → (files : List MemFile) → s.files ≡ Some files → Asks words (HasEnough (Some files)) → IsOneOf (0 ∷ 1 ∷ 3 ∷ 8 ∷ 9 ∷ []) (code_of status)
  decided_always (Answered Done) x files told n = inl refl
  decided_always (Answered NoPlan) x files told n = inr (inl refl)
  decided_always (Answered Open) x files told n = (let y = of_files Open (HasEnough (Some files)) x n in absurd (open_enough files y.asked y.so.notes y.so.text (here (HasEnough (Some files)) Open y n) (answers_told Open files told y)))
  decided_always (Answered Undecided) x files told n = (let y = of_files Undecided (HasEnough (Some files)) x n in absurd (undecided_enough files y.asked y.so.notes y.so.text (here (HasEnough (Some files)) Undecided y n) (answers_told Undecided files told y)))
  decided_always (Answered Fault) x files told n = (let y = of_files Fault (HasEnough (Some files)) x n in absurd (fault_sought files y.asked y.so.notes y.so.text (here (HasEnough (Some files)) Fault y n).arranges (answers_told Fault files told y)))
  decided_always WrongWords x files told n = absurd (accepted-refused (requested words) (OfFiles n.asked) x.0.why n.accepted x.0.refused)
  decided_always ReadFault x files told n = inr (inr (inl refl))
  decided_always WrongFile x files told n = absurd (not_refused files told x (record { asked = n.asked; accepted = n.accepted; so = sufficient (Some files) n.asked n.so }))
  decided_always WriteFault x files told n = inr (inr (inr (inl refl)))
  decided_always NoMemory x files told n = inr (inr (inr (inr refl)))

  searched_bad : (v : Verdict) → IsSearched v → E (Answered v) → (files : List MemFile) → s.files ≡ Some files → Asks words (HasFaultyPlan (Some files)) → ⊥
  searched_bad v is x files told n = (let y = of_files v (HasFaultyPlan (Some files)) x n in searched_faulty files y.asked v y.so.notes y.so.text (here (HasFaultyPlan (Some files)) v y n) is (answers_told v files told y))

  pub fault_always : (status : Status) → E status → (files : List MemFile) → s.files ≡ Some files → Asks words (HasFaultyPlan (Some files)) → IsOneOf (3 ∷ 7 ∷ 8 ∷ 9 ∷ []) (code_of status)
  fault_always (Answered Done) x files told n = (let y = of_files Done (HasFaultyPlan (Some files)) x n in absurd (done_faulty files y.asked y.so.notes y.so.text (here (HasFaultyPlan (Some files)) Done y n) (answers_told Done files told y)))
  fault_always (Answered NoPlan) x files told n = absurd (searched_bad NoPlan tt x files told n)
  fault_always (Answered Open) x files told n = absurd (searched_bad Open tt x files told n)
  fault_always (Answered Undecided) x files told n = absurd (searched_bad Undecided tt x files told n)
  fault_always (Answered Fault) x files told n = inr (inl refl)
  fault_always WrongWords x files told n = absurd (accepted-refused (requested words) (OfFiles n.asked) x.0.why n.accepted x.0.refused)
  fault_always ReadFault x files told n = inl refl
  fault_always WrongFile x files told n = absurd (not_refused files told x (record { asked = n.asked; accepted = n.accepted; so = faulty (Some files) n.asked n.so }))
  fault_always WriteFault x files told n = inr (inr (inl refl))
  fault_always NoMemory x files told n = inr (inr (inr refl))

  searched_good : (v : Verdict) → IsSearched v → E (Answered v) → (files : List MemFile) → s.files ≡ Some files → Asks words (HasFaultlessPlan (Some files)) → ⊥
  searched_good v is x files told n = (let y = of_files v (HasFaultlessPlan (Some files)) x n in searched_faultless files y.asked v y.so.notes y.so.text (here (HasFaultlessPlan (Some files)) v y n) is (answers_told v files told y))

  pub good_always : (status : Status) → E status → (files : List MemFile) → s.files ≡ Some files → Asks words (HasFaultlessPlan (Some files)) → IsOneOf (0 ∷ 3 ∷ 8 ∷ 9 ∷ []) (code_of status)
  good_always (Answered Done) x files told n = inl refl
  good_always (Answered NoPlan) x files told n = absurd (searched_good NoPlan tt x files told n)
  good_always (Answered Open) x files told n = absurd (searched_good Open tt x files told n)
  good_always (Answered Undecided) x files told n = absurd (searched_good Undecided tt x files told n)
  good_always (Answered Fault) x files told n = (let y = of_files Fault (HasFaultlessPlan (Some files)) x n in absurd (fault_faultless files y.asked y.so.notes y.so.text (here (HasFaultlessPlan (Some files)) Fault y n) (answers_told Fault files told y)))
  good_always WrongWords x files told n = absurd (accepted-refused (requested words) (OfFiles n.asked) x.0.why n.accepted x.0.refused)
  good_always ReadFault x files told n = inr (inl refl)
  good_always WrongFile x files told n = absurd (not_refused files told x (record { asked = n.asked; accepted = n.accepted; so = faultless (Some files) n.asked n.so }))
  good_always WriteFault x files told n = inr (inr (inl refl))
  good_always NoMemory x files told n = inr (inr (inr refl))

  used : (verdict : Verdict) → E (Answered verdict) → Asks words (IsUnusable s.files) → ⊥
  used verdict x n =
      let y = of_files verdict (IsUnusable s.files) x n in
      here (IsUnusable s.files) verdict y n (record { inputs = y.so.answers.inputs; usable = y.so.answers.usable })

  pub input_always : (status : Status) → E status → Asks words (IsUnusable s.files) → IsOneOf (3 ∷ 4 ∷ 8 ∷ 9 ∷ []) (code_of status)
  input_always (Answered verdict) x n = absurd (used verdict x n)
  input_always WrongWords x n = absurd (accepted-refused (requested words) (OfFiles n.asked) x.0.why n.accepted x.0.refused)
  input_always ReadFault x n = inl refl
  input_always WrongFile x n = inr (inl refl)
  input_always WriteFault x n = inr (inr (inl refl))
  input_always NoMemory x n = inr (inr (inr refl))

  -- no answer of files is one of a trial
  of_trial : (verdict : Verdict) → E (Answered verdict) → AsksTrial words → Tries words (λ objects seed. IsTried verdict objects seed o o')
  of_trial verdict (inl x) n = absurd (asked-tried (requested words) x.asked n.objects n.seed x.accepted n.accepted)
  of_trial verdict (inr x) n = x.0

  pub trial_always : (status : Status) → E status → AsksTrial words → IsOneOf (0 ∷ 1 ∷ 6 ∷ 8 ∷ 9 ∷ []) (code_of status)
  trial_always (Answered Done) x n = inl refl
  trial_always (Answered NoPlan) x n = inr (inl refl)
  trial_always (Answered Open) x n = absurd ((of_trial Open x n).so.prints.prints)
  trial_always (Answered Undecided) x n = inr (inr (inl refl))
  trial_always (Answered Fault) x n = absurd ((of_trial Fault x n).so.prints.prints)
  trial_always WrongWords x n = absurd (accepted-refused (requested words) (Trial n.objects n.seed) x.0.why n.accepted x.0.refused)
  trial_always ReadFault x n = absurd (asked-tried (requested words) x.0.asked n.objects n.seed x.0.accepted n.accepted)
  trial_always WrongFile x n = absurd (asked-tried (requested words) x.0.asked n.objects n.seed x.0.accepted n.accepted)
  trial_always WriteFault x n = inr (inr (inr (inl refl)))
  trial_always NoMemory x n = inr (inr (inr (inr refl)))

  pub input_only : (files : List MemFile) → s.files ≡ Some files → E WrongFile → Asks words (IsUsable (Some files)) → ⊥
  input_only files told x u = not_refused files told x u

  pub err_calm : (status : Status) → E status → code_of status ≢ 8 → e'.faults ≡ e.faults
  err_calm (Answered verdict) (inl x) h = x.so.err.calm
  err_calm (Answered verdict) (inr x) h = ap (λ (v : SinkView). v.faults) x.1
  err_calm WrongWords x h = x.0.err.calm
  err_calm ReadFault x h = x.0.so.err.calm
  err_calm WrongFile x h = x.0.so.err.calm
  err_calm WriteFault x h = absurd (h refl)
  err_calm NoMemory x h = x.0.err.calm

  pub out_calm : (status : Status) → E status → code_of status ≢ 8 → o'.faults ≡ o.faults
  out_calm (Answered verdict) (inl x) h = x.so.out.calm
  out_calm (Answered verdict) (inr x) h = x.0.so.out.calm
  out_calm WrongWords x h = ap (λ (v : SinkView). v.faults) x.1
  out_calm ReadFault x h = ap (λ (v : SinkView). v.faults) x.1
  out_calm WrongFile x h = ap (λ (v : SinkView). v.faults) x.1
  out_calm WriteFault x h = absurd (h refl)
  out_calm NoMemory x h = ap (λ (v : SinkView). v.faults) x.1

  wanting : IsUntouched s s' ⊎ Asks words (λ a. WantsMemory a s s') → s'.faults ≡ s.faults
  wanting (inl u) = u.calm
  wanting (inr a) = wants a.asked a.so
    where
      wants : (a : Asked) → WantsMemory a s s' → s'.faults ≡ s.faults
      wants a (inl u) = u.calm
      wants a (inr r) = r.read.calm

  pub calm : (status : Status) → E status → code_of status ≢ 3 → code_of status ≢ 8 → s'.faults ≡ s.faults
  calm (Answered verdict) (inl x) h k = x.so.read.calm
  calm (Answered verdict) (inr x) h k = x.2.calm
  calm WrongWords x h k = x.0.shelf.calm
  calm ReadFault x h k = absurd (h refl)
  calm WrongFile x h k = x.0.so.refused.read.calm
  calm WriteFault x h k = absurd (k refl)
  calm NoMemory x h k = wanting x.0.wanting

  -- by the number
  pub silent : (n : ℕ) → ((m : ℕ) → n ≡ m → E (status_at m)) → IsOneOf (2 ∷ 3 ∷ 4 ∷ 9 ∷ []) n → o' ≡ o
  silent n x (inl h) = (x 2 h).1
  silent n x (inr (inl h)) = (x 3 h).1
  silent n x (inr (inr (inl h))) = (x 4 h).1
  silent n x (inr (inr (inr h))) = (x 9 h).1

-- what was told of a stop
pub stop_ends : (a : Asked) (s s' : ShelfView) (e e' o : SinkView) (told : Stop) → Explains a s s' told → Wrote (line_of a told) e e' → AskedEnds a s s' e e' o o (status_of told)
stop_ends a s s' e e' o (Read file) why line = (record { file = file; failed = why; err = line }, refl)
stop_ends a s s' e e' o (Input file c) why line = (record { file = file; cause = c; refused = why; err = line }, refl)
stop_ends a s s' e e' o Memory why line = ((why, line), refl)

-- a trial leaves the shelf alone
pub trial_ends : (words : List (List ℕ)) (objects seed : ℕ) (s : ShelfView) (e e' o o' : SinkView) (status : Status) → requested words ≡ Ok (Trial objects seed) → TrialEnds objects seed e e' o o' status → RunEnds words s s e e' o o' status
trial_ends words objects seed s e e' o o' status is t = by status t
  where
    untouched : IsUntouched s s
    untouched = record { named = refl; starts = refl; calm = refl }

    by : (status : Status) → TrialEnds objects seed e e' o o' status → RunEnds words s s e e' o o' status
    by (Answered verdict) x = inr (record { objects = objects; seed = seed; accepted = is; so = x.0 }, x.1, untouched)
    by WrongWords x = absurd x
    by ReadFault x = absurd x
    by WrongFile x = absurd x
    by WriteFault (inl x) = inl (record { why = Refusals.NoMemory; refused = inl refl; shelf = untouched; broke = x.0 }, x.1)
    by WriteFault (inr x) = inr (inr (inr (record { objects = objects; seed = seed; accepted = is; so = x.0 }, x.1, untouched)))
    by NoMemory x = (record { wanting = inl untouched; err = x.0 }, x.1)
