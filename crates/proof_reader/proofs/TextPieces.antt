-- The ways out of the readers of the whole body and of the whole text.
use Rattle.std.proofs.Common.{◌≡◌, ℕ, ◌+◌, ◌-◌, ◌≤◌, List, [], ◌++◌, length, Some, sym, ap, subst, ◌∙◌, arith, length-append}
use Rattle.first_fault.specs.Levels.{Within}
use Rattle.first_fault.proofs.Fronts.{put-append, within-append}
use Rattle.kernel_rules.specs.declared.step.Step.{Step}
use Rattle.theory_terms.specs.Words.{place}
use Rattle.theory_reader.specs.declared.theory.Theory.{Theory}
use Rattle.theory_reader.specs.Sound.{goal_names}
use Rattle.proof_syntax.specs.declared.file.ProofFile.{ProofFile}
use Rattle.proof_syntax.specs.declared.fault.PartFault.{PartFault}
use Rattle.proof_syntax.specs.declared.fault.PartFault.TheVariants as fault
use Rattle.proof_syntax.specs.Names.{names_of, number_of}
use Rattle.proof_syntax.specs.Grammar.{Placed, most, name_level, AreSteps, IsProof, proof}
use Rattle.proof_syntax.specs.Reading.{first_line, Reads, Faulty, stops, goes_beyond, behind}
use Rattle.proof_syntax.specs.Machine.{put}
use Rattle.proof_syntax.specs.Parts.{Exceeds}
use Rattle.proof_syntax.proofs.Whole.{goal_line}
use Rattle.proof_syntax.proofs.Stops as places
use Rattle.proof_reader.specs.inner.Start.{IsBody}
use Rattle.proof_reader.specs.inner.Parts.{GotSteps, FailsSteps}
use Rattle.proof_reader.specs.inner.Body.{BodyReads, Begins, BodyHalts, FailsBody, GotGoal}

-- ---- the steps behind the goal's line

module _ (t : Theory) (body : List ℕ) (g : ℕ) (rest : List ℕ) (line : GotGoal t body g rest) where
  abbrev placed_line : List Placed
  placed_line = goal_line t line.name

  number_is : number_of (place line.name (goal_names t.goals)) ≡ g
  number_is = ap number_of line.number

  low : Within most placed_line
  low =
      let fits : name_level 0 (Some g) ≤ most = omega arith in
      (omega arith, (omega arith, (subst (λ o. name_level 0 o ≤ most) (sym line.number) fits, (omega arith, tt))))

  pub steps_fail : (e : PartFault) → FailsSteps (names_of t g) rest e → FailsBody t body e
  steps_fail (fault.Stops left) h =
      let same = subst (λ n. FailsSteps (names_of t n) rest (fault.Stops left)) (sym number_is) h in
      let s = places.steps_stop t line.name body rest left line.tokens low same in
      record { before = s.before; rest = s.rest; tokens = s.tokens; within = s.within; begins = s.begins; stuck = s.stuck; into = s.into; is_into = s.is_into; count = s.count }
  steps_fail (fault.GoesBeyond left) h =
      let same = subst (λ n. FailsSteps (names_of t n) rest (fault.GoesBeyond left)) (sym number_is) h in
      places.steps_beyond t line.name body rest left line.tokens low same
  steps_fail fault.NoMemory h = tt

  pub body_ok : (steps : List Step) → GotSteps (names_of t g) rest steps → BodyReads t body (record { goal = g; steps = steps })
  body_ok steps s = record {
    placed = placed_line ++ s.placed;
    derived =
        subst (λ n. IsProof t (placed_line ++ s.placed) (record { goal = n; steps = steps })) number_is
        (proof {x = line.name} (subst (λ n. AreSteps (names_of t n) 0 s.placed steps) (sym number_is) s.derived));
    within = within-append most placed_line s.placed low s.within;
    tokens = line.tokens ∙ ap (λ ts. put placed_line ts) s.tokens ∙ sym (put-append placed_line s.placed []);
  }

-- ---- the body behind the first line

module _ (t : Theory) (text body : List ℕ) (b : IsBody text body) where
  size : length text ≡ length (b.0 ++ first_line) + length body
  size = ap (λ bs. length bs) b.1.is ∙ length-append (b.0 ++ first_line) body

  inside : (left : ℕ) → left ≤ length body → left ≤ length text
  inside left h = let all = size in omega arith

  place_is : (left : ℕ) → left ≤ length body → behind b.0 (length body - left) ≡ length text - left
  place_is left h = let all = size in omega arith

  halt_within : (left : ℕ) → BodyHalts t body left → left ≤ length body
  halt_within left h = places.stops_within t body left h.before h.rest h.into h.tokens h.count

  pub stops_within : (left : ℕ) → BodyHalts t body left → left ≤ length text
  stops_within left h = inside left (halt_within left h)

  pub beyond_within : (left : ℕ) → Exceeds (Begins t) body left → left ≤ length text
  beyond_within left h = inside left (places.goes_beyond_within t body left h)

  pub stops_there : (left : ℕ) → BodyHalts t body left → Faulty t text (length text - left)
  stops_there left h = subst (Faulty t text) (place_is left (halt_within left h))
      (stops b.1 (places.stops_at t body left h.before h.rest h.into h.tokens h.count h.within h.begins h.stuck h.is_into))

  pub beyond_there : (left : ℕ) → Exceeds (Begins t) body left → Faulty t text (length text - left)
  beyond_there left h = subst (Faulty t text) (place_is left (places.goes_beyond_within t body left h)) (goes_beyond b.1 (places.goes_beyond_at t body left h))

  pub text_ok : (file : ProofFile) → BodyReads t body file → Reads t text file
  text_ok file h = record { before = b.0; body = body; starts = b.1; read = h }
