-- A goal that is posed isn't refused.
use Rattle.std.proofs.Common.{ℕ, ◌≡◌, ◌∙◌, ◌+◌, ◌<◌, ◌≤◌, Bool, true, false, List, length, sym, ap, subst, Option, Some, None, slice_get, arith}
use Rattle.std.specs.List.{position}
use Rattle.std.specs.Option.{option_map_or}
use Rattle.std.specs.Str.{bytes_eq}
use Rattle.race_outside.specs.Causes.{Rose}
use Rattle.race_outside.specs.Shelves.{Fetched, Files}
use Rattle.theory_terms.specs.Answers.{Answer, Good, Bad}
use Rattle.theory_terms.specs.Signature.{sig_of}
use Rattle.theory_reader.specs.Declarations.{Declarations, known}
use Rattle.theory_reader.specs.declared.theory.Theory.{Theory}
use Rattle.theory_reader.specs.Reading.{Faulty, OneAnswer, Reads}
use Rattle.theory_reader.specs.Seen.{declarations}
use Rattle.formula_clauses.specs.Fits.{fits}
use Rattle.slot_work.specs.Visible.{goal_fits}
use Rattle.sledge_engine.specs.Choice.{goal_place}
use Rattle.sledge_engine.specs.Files.{FileRefusal, Holds, HoldsTheory, Outside, TheoryRefusal, faulty, long_file, most_theory_bytes, no_bytes, no_file}
use Rattle.sledge_engine.specs.Goals.{GoalRefusal, Poses, no_goal, no_theory, too_large}
use Rattle.sledge_engine.specs.Laws.{PosedIsNotRefused}

-- what was fetched of a file that is told
one_fetch : (held : Option Files) (files : Files) (name : List ℕ) (limit : ℕ) (a b : List ℕ) → held ≡ Some files → Fetched held name limit a → Fetched held name limit b → a ≡ b
one_fetch None files name limit a b told x y = absurd cc
one_fetch (Some f) files name limit a b told x y = let e : Some a ≡ Some b = sym x ∙ y in cc

abbrev fits_in : Declarations → ℕ → Bool
fits_in d n = option_map_or (λ g. fits (sig_of (known d)) g.formula true) (slice_get d.goals n) false

module _ (one : OneAnswer) where
  one_theory : (bytes : List ℕ) (t u : Theory) → Reads bytes (declarations t) → Reads bytes (declarations u) → declarations t ≡ declarations u
  one_theory bytes t u x y = let e = one bytes (Good (declarations t)) (Good (declarations u)) x y in cc

  module _ (o : Outside) (files : Files) (name : List ℕ) (told : o.files ≡ Some files) where
    same_theory : (t u : Theory) → HoldsTheory o.files name t → HoldsTheory o.files name u → declarations t ≡ declarations u
    same_theory t u x y =
        let same : y.bytes ≡ x.bytes = one_fetch o.files files name most_theory_bytes y.bytes x.bytes told y.held.fetched x.held.fetched in
        one_theory x.bytes t u x.reads (subst (λ b. Reads b (declarations u)) same y.reads)

    unrefused_theory : (t : Theory) (status : ℕ) (text : List ℕ) → (Rose o.before o.after → ⊥) → HoldsTheory o.files name t → TheoryRefusal o name status text → ⊥
    unrefused_theory t status text still held (no_bytes _ _ (no_file none)) = still none.failed
    unrefused_theory t status text still held (no_bytes _ _ (long_file bytes fetched long)) =
        let same : bytes ≡ held.bytes = one_fetch o.files files name most_theory_bytes bytes held.bytes told fetched held.held.fetched in
        let short = held.held.short in
        let many = ap length same in
        omega (arith, long, short, many)
    unrefused_theory t status text still held (faulty bytes at k holds fault) =
        let same : held.bytes ≡ bytes = one_fetch o.files files name most_theory_bytes held.bytes bytes told held.held.fetched holds.fetched in
        let e = one bytes (Good (declarations t)) (Bad at k) (subst (λ b. Reads b (declarations t)) same held.reads) fault in
        cc

  pub unrefused : PosedIsNotRefused
  unrefused o files theory name t goal status text told still poses (no_theory _ _ h) = unrefused_theory o files theory told t status text still poses.held h
  unrefused o files theory name t goal status text told still poses (no_goal u held none) =
      let same = same_theory o files theory told u t held poses.held in
      let place : goal_place u name ≡ goal_place t name = ap (λ (d : Declarations). position (λ g. bytes_eq name g.name) d.goals) same in
      let e : None ≡ Some goal = sym none ∙ place ∙ poses.place in
      cc
  unrefused o files theory name t goal status text told still poses (too_large u other held at large) =
      let same = same_theory o files theory told u t held poses.held in
      let place : goal_place u name ≡ goal_place t name = ap (λ (d : Declarations). position (λ g. bytes_eq name g.name) d.goals) same in
      let number : Some other ≡ Some goal = sym at ∙ place ∙ poses.place in
      let is : other ≡ goal = cc in
      let fit : goal_fits u other ≡ goal_fits t other = ap (λ d. fits_in d other) same in
      let e : false ≡ true = sym large ∙ fit ∙ ap (goal_fits t) is ∙ poses.fits in
      cc
