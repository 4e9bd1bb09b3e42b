-- What reads as a proof is its text, byte for byte.
use Rattle.std.proofs.Common.{◌≡◌, ℕ, ◌+◌, ◌≤◌, List, [], ◌∷◌, ◌++◌, codes, decimal, Some, None, refl, sym, ap, ◌∙◌, append_assoc, arith}
use Rattle.std.specs.Prelude.{Option}
use Rattle.std.specs.Str.{bytes_eq}
use Rattle.std.proofs.lemmas.List.{append-nil}
use Rattle.std.proofs.lemmas.List.Quantifiers.{position-Some}
use Rattle.std.proofs.lemmas.Option.{unwrap_or-slice_get}
use Rattle.first_fault.specs.Levels.{put, Within}
use Rattle.first_fault.proofs.Fronts.{put-append}
use Rattle.hol_terms.specs.declared.ty.Ty.{Ty}
use Rattle.hol_terms.specs.declared.konst.Konst.{Konst}
use Rattle.hol_terms.specs.declared.konst.Konst.TheVariants as konst
use Rattle.hol_terms.specs.declared.term.Term.{Term}
use Rattle.hol_terms.specs.declared.term.Term.TheVariants as terms
use Rattle.kernel_rules.specs.declared.step.Step.{Step}
use Rattle.theory_terms.specs.Words.{place}
use Rattle.theory_reader.specs.declared.theory.Theory.{Theory}
use Rattle.theory_reader.specs.Sound.{goal_names}
use Rattle.proof_syntax.specs.declared.file.ProofFile.{ProofFile}
use Rattle.proof_syntax.specs.Names.{Names, names_of, name_in, number_of}
use Rattle.proof_syntax.specs.Forms.{Arg, Plain, Truth, Falsity, Not, And, Or, Imp, plain_word, plain_konst, Typed, Eq, All, Ex, Eps, typed_word, typed_konst, form}
use Rattle.proof_syntax.specs.Tokens.{Word, line_end, space, open_round, close_round, greater, open_square, close_square, open_brace, close_brace, spelled}
use Rattle.proof_syntax.specs.Grammar.{Placed, at, most, name_level, IsType, base, arrow, IsTerm, bound, free, named, plain, typed, apply, lambda, IsArg, fact, number, type, term, AreArgs, none, more, AreSteps, end, step, IsProof, proof}
use Rattle.proof_syntax.specs.Reading.{first_line}
use Rattle.proof_syntax.specs.Texts.{type_text, with_type, konst_text, term_text, arg_text, args_text, steps_text, proof_text}
use Rattle.proof_syntax.proofs.Cutting.{spelled_cut, spelled_put}
use Rattle.proof_syntax.proofs.Numbers.{eq_same}
use Rattle.proof_text.specs.Laws.{OneText}
use Rattle.proof_text.proofs.TypesLie.{base_is, arrow_is, base_text, arrow_text}
use Rattle.proof_text.proofs.TermsLie.{bound_is, free_is, con_is, app_is, lam_is, text-bound, text-free, text-con, text-app, text-lam}

-- the bytes of tokens
abbrev said : List Placed → List ℕ
said p = spelled (put p [])

said-append : (p q : List Placed) → said (p ++ q) ≡ said p ++ said q
said-append p q = ap spelled (put-append p q []) ∙ spelled_put p (put q [])

low_front : (p q : List Placed) → Within most (p ++ q) → Within most p
low_front [] q h = tt
low_front (x ∷ p) q h = (h.0, low_front p q h.1)

low_back : (p q : List Placed) → Within most (p ++ q) → Within most q
low_back [] q h = h
low_back (x ∷ p) q h = low_back p q h.1

-- a name that stands within the greatest level is declared
name_from : (l : ℕ) (x : List ℕ) (names : List (List ℕ)) (o : Option ℕ) → place x names ≡ o → name_level l o ≤ most → name_in names (number_of o) ≡ x
name_from l x names None e low = absurd (omega arith)
name_from l x names (Some i) e low = unwrap_or-slice_get names i [] ∙ sym (eq_same x _ (position-Some (bytes_eq x) names i [] e).1)

name_said : (l : ℕ) (x : List ℕ) (names : List (List ℕ)) → name_level l (place x names) ≤ most → name_in names (number_of (place x names)) ≡ x
name_said l x names low = name_from l x names (place x names) refl low

-- two parts, with signs before, between and behind them
pieces : (b c d : ℕ) (x y : List ℕ) → ((b ∷ x) ++ (c ∷ y)) ++ d ∷ [] ≡ (b ∷ []) ++ x ++ (c ∷ []) ++ y ++ (d ∷ [])
pieces b c d x y = simp append_assoc

between_said : (x y z : Placed) (b c d : ℕ) (p q : List Placed) (first second : List ℕ) → said (x ∷ []) ≡ b ∷ [] → said (y ∷ []) ≡ c ∷ [] → said (z ∷ []) ≡ d ∷ [] → said p ≡ first → said q ≡ second →
    said (x ∷ p ++ y ∷ q ++ z ∷ []) ≡ (b ∷ []) ++ first ++ (c ∷ []) ++ second ++ (d ∷ [])
between_said x y z b c d p q first second hx hy hz hp hq =
    said-append (x ∷ p ++ y ∷ q) (z ∷ []) ∙ ap (λ w. w ++ said (z ∷ [])) (said-append (x ∷ p) (y ∷ q) ∙ ap (λ w. w ++ said (y ∷ q)) (said-append (x ∷ []) p) ∙ ap (λ w. (said (x ∷ []) ++ said p) ++ w) (said-append (y ∷ []) q))
    ∙ rw (hx, hy, hz, hp, hq) (pieces b c d first second)

module _ (names : Names) where
  type_said : {l : ℕ} {p : List Placed} {a : Ty} → IsType names l p a → Within most p → said p ≡ type_text names a
  type_said {l = l} (base {x = x}) = λ low.
      let n = number_of (place x names.types) in
      append-nil x ∙ sym (ap (type_text names) (base_is n) ∙ base_text names n ∙ name_said l x names.types low.0)
  type_said {l = l} (arrow {p = p} {q = q} {a = a} {b = b} d e) = λ low.
      let front = low_front (at l open_round ∷ p ++ at l greater ∷ q) (at l close_round ∷ []) low in
      between_said (at l open_round) (at l greater) (at l close_round) 40 62 41 p q (type_text names a) (type_text names b) refl refl refl
      (type_said d (low_front p (at l greater ∷ q) front.1)) (type_said e (low_back p (at l greater ∷ q) front.1).1)
      ∙ sym (ap (type_text names) (arrow_is a b) ∙ arrow_text names a b)

  plain_said : (k : Plain) → konst_text names (plain_konst k) ≡ plain_word k
  plain_said Truth = refl
  plain_said Falsity = refl
  plain_said Not = refl
  plain_said And = refl
  plain_said Or = refl
  plain_said Imp = refl

  typed_said : (k : Typed) (a : Ty) → konst_text names (typed_konst k a) ≡ with_type names (typed_word k) a
  typed_said Eq a = refl
  typed_said All a = refl
  typed_said Ex a = refl
  typed_said Eps a = refl

  con_text : (k : Konst) → term_text names (terms.Con k) ≡ konst_text names k
  con_text k = ap (term_text names) (con_is k) ∙ text-con names k

  free_pieces : (n a : List ℕ) → 36 ∷ (n ++ 58 ∷ a) ≡ codes "$" ++ n ++ codes ":" ++ a
  free_pieces n a = simp append_assoc

  typed_pieces : (w a : List ℕ) → (w ++ 91 ∷ a) ++ 93 ∷ [] ≡ w ++ codes "[" ++ a ++ codes "]"
  typed_pieces w a = simp append_assoc

  lam_pieces : (a b : List ℕ) → (123 ∷ a) ++ 125 ∷ b ≡ codes "{" ++ a ++ codes "}" ++ b
  lam_pieces a b = simp append_assoc

  term_said : {l : ℕ} {p : List Placed} {t : Term} → IsTerm names l p t → Within most p → said p ≡ term_text names t
  term_said (bound {n = n} small) = λ low. ap (λ w. 35 ∷ w) (append-nil (decimal n)) ∙ sym (ap (term_text names) (bound_is n) ∙ text-bound names n)
  term_said (free {n = n} {p = p} {a = a} small d) = λ low.
      ap (λ w. 36 ∷ (decimal n ++ 58 ∷ w)) (type_said d low.1.1.1) ∙ free_pieces (decimal n) (type_text names a) ∙ sym (ap (term_text names) (free_is n a) ∙ text-free names n a)
  term_said {l = l} (named {x = x}) = λ low.
      let n = number_of (place x names.consts) in
      ap (λ w. 46 ∷ w) (append-nil x ∙ sym (name_said l x names.consts low.1.0)) ∙ sym (con_text (konst.Named n))
  term_said (plain k) = λ low. append-nil (plain_word k) ∙ sym (con_text (plain_konst k) ∙ plain_said k)
  term_said {l = l} (typed k {p = p} {a = a} d) = λ low.
      said-append (at l (Word (typed_word k)) ∷ at l open_square ∷ p) (at l close_square ∷ [])
      ∙ ap (λ w. (typed_word k ++ 91 ∷ w) ++ 93 ∷ []) (type_said d (low_front p (at l close_square ∷ []) low.1.1))
      ∙ typed_pieces (typed_word k) (type_text names a) ∙ sym (con_text (typed_konst k a) ∙ typed_said k a)
  term_said {l = l} (apply {p = p} {q = q} {f = f} {x = x} d e) = λ low.
      let front = low_front (at (l + 1) open_round ∷ p ++ at (l + 1) space ∷ q) (at (l + 1) close_round ∷ []) low in
      between_said (at (l + 1) open_round) (at (l + 1) space) (at (l + 1) close_round) 40 32 41 p q (term_text names f) (term_text names x) refl refl refl
      (term_said d (low_front p (at (l + 1) space ∷ q) front.1)) (term_said e (low_back p (at (l + 1) space ∷ q) front.1).1)
      ∙ sym (ap (term_text names) (app_is f x) ∙ text-app names f x)
  term_said {l = l} (lambda {p = p} {q = q} {a = a} {b = b} d e) = λ low.
      said-append (at (l + 1) open_brace ∷ p) (at (l + 1) close_brace ∷ q)
      ∙ ap (λ w. (123 ∷ w) ++ 125 ∷ said q) (type_said d (low_front p (at (l + 1) close_brace ∷ q) low.1))
      ∙ ap (λ w. (123 ∷ type_text names a) ++ 125 ∷ w) (term_said e (low_back p (at (l + 1) close_brace ∷ q) low.1).1)
      ∙ lam_pieces (type_text names a) (term_text names b) ∙ sym (ap (term_text names) (lam_is a b) ∙ text-lam names a b)

  arg_said : {p : List Placed} {a : Arg} → IsArg names p a → Within most p → said p ≡ arg_text names a
  arg_said (fact {x = x}) = λ low. append-nil x ∙ sym (name_said 0 x names.facts low.0)
  arg_said (number {n = n} small) = λ low. append-nil (decimal n)
  arg_said (type d) = λ low. type_said d low
  arg_said (term d) = λ low. term_said d low

  args_said : {p : List Placed} {args : List Arg} → AreArgs names p args → Within most p → said p ≡ args_text names args
  args_said none = λ low. refl
  args_said (more {p = p} {q = q} {a = a} {others = others} d e) = λ low.
      said-append (at 0 space ∷ p) q ∙ ap (λ w. (32 ∷ w) ++ said q) (arg_said d (low_front p q low.1)) ∙ ap (λ w. (32 ∷ arg_text names a) ++ w) (args_said e (low_back p q low.1))

  step_pieces : (n w args steps ending : List ℕ) → (n ++ 32 ∷ (w ++ args)) ++ 10 ∷ (steps ++ ending) ≡ ((n ++ codes " " ++ w ++ args ++ codes "\n") ++ steps) ++ ending
  step_pieces n w args steps ending = simp append_assoc

  steps_said : {n : ℕ} {p : List Placed} {steps : List Step} → AreSteps names n p steps → Within most p → said p ≡ steps_text names n steps ++ codes "end\n"
  steps_said end = λ low. refl
  steps_said {n = n} (step {p = p} {q = q} {s = s} {more = later} d e) = λ low.
      let w = (form s).word in
      said-append (at 0 (Word (decimal n)) ∷ at 0 space ∷ at 0 (Word w) ∷ p) (at 0 line_end ∷ q)
      ∙ ap (λ z. (decimal n ++ 32 ∷ (w ++ z)) ++ 10 ∷ said q) (args_said d (low_front p (at 0 line_end ∷ q) low.1.1.1))
      ∙ ap (λ z. (decimal n ++ 32 ∷ (w ++ args_text names (form s).args)) ++ 10 ∷ z) (steps_said e (low_back p (at 0 line_end ∷ q) low.1.1.1).1)
      ∙ step_pieces (decimal n) w (args_text names (form s).args) (steps_text names (n + 1) later) (codes "end\n")

whole_pieces : (w steps ending : List ℕ) → first_line ++ (codes "goal" ++ 32 ∷ (w ++ 10 ∷ (steps ++ ending))) ≡ first_line ++ codes "goal " ++ w ++ codes "\n" ++ steps ++ ending
whole_pieces w steps ending = simp append_assoc

proof_said : (t : Theory) {p : List Placed} {v : ProofFile} → IsProof t p v → Within most p → first_line ++ said p ≡ proof_text t v.goal v.steps
proof_said t (proof {x = x} {q = q} {steps = steps} d) = λ low.
    let goal = number_of (place x (goal_names t.goals)) in
    ap (λ z. first_line ++ (codes "goal" ++ 32 ∷ (x ++ 10 ∷ z))) (steps_said (names_of t goal) d low.1.1.1.1)
    ∙ ap (λ z. first_line ++ (codes "goal" ++ 32 ∷ (z ++ 10 ∷ (steps_text (names_of t goal) 0 steps ++ codes "end\n")))) (sym (name_said 0 x (goal_names t.goals) low.1.1.0))
    ∙ whole_pieces (name_in (goal_names t.goals) goal) (steps_text (names_of t goal) 0 steps) (codes "end\n")

pub one : OneText
one t text p r =
    r.starts.is ∙ append_assoc r.before first_line r.body
    ∙ ap (λ z. r.before ++ (first_line ++ z)) (sym (spelled_cut r.body) ∙ ap spelled r.read.tokens)
    ∙ ap (λ z. r.before ++ z) (proof_said t r.read.derived r.read.within)
