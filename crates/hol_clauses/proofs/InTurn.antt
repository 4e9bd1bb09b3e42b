-- Variables are replaced one after another.
use Rattle.std.proofs.Common.{◌≡◌, ℕ, List, [], ◌∷◌, ◌++◌, map, refl, sym, ◌∙◌, ap, Bool, true, false, if◌then◌else◌, ◌==◌, ◌&&◌}
use Rattle.hol_terms.specs.declared.ty.Ty.{Ty}
use Rattle.hol_terms.specs.declared.konst.Konst.{Konst}
use Rattle.hol_terms.specs.declared.konst.Konst.TheVariants as konst
use Rattle.hol_terms.specs.declared.term.Term.{Term, roll-Term}
use Rattle.hol_terms.specs.declared.term.Term.TheOpen.{Term-F}
use Rattle.hol_terms.specs.Types.{is_ty}
use Rattle.hol_terms.specs.Substitution.{put_free, one_put}
use Rattle.hol_terms.proofs.TermCases.{by_cases}
use Rattle.hol_terms.proofs.Equations.{put_free-bound, put_free-free, put_free-con, put_free-app, put_free-lam}
use Rattle.hyp_sets.specs.Sets.{TermSet, Holds, Among, image}
use Rattle.kernel_rules.specs.Connectives.{neg, apply, constant}
use Rattle.hol_terms.specs.declared.literal.TypedLiteral.{TypedLiteral}
use Rattle.hol_clauses.specs.declared.binding.Binding.{Binding}
use Rattle.hol_clauses.specs.Literals.{denied, allowed}
use Rattle.hol_clauses.specs.Bindings.{put_one, in_turn, looked_up, Solved}
use Rattle.hol_clauses.specs.Laws.{instance, InstanceLands, InTurnIsAtOnce}
use Rattle.hol_clauses.proofs.Clauses.{among_image}

-- two replacements are one
module _ (v w : ℕ → Ty → Term) where
  abbrev both : ℕ → Ty → Term
  both x s = put_free w (v x s)

  abbrev Joins : Term → Type 0
  Joins d = put_free w (put_free v d) ≡ put_free both d

  bound : (i : ℕ) → Joins (roll-Term (Term-F.Bound i))
  bound i = ap (put_free w) (put_free-bound v i) ∙ put_free-bound w i ∙ sym (put_free-bound both i)

  free : (x : ℕ) (s : Ty) → Joins (roll-Term (Term-F.Free x s))
  free x s = ap (put_free w) (put_free-free v x s) ∙ sym (put_free-free both x s)

  con : (k : Konst) → Joins (roll-Term (Term-F.Con k))
  con k = ap (put_free w) (put_free-con v k) ∙ put_free-con w k ∙ sym (put_free-con both k)

  app : (f x : Term) → Joins f → Joins x → Joins (roll-Term (Term-F.App f x))
  app f x hf hx = ap (put_free w) (put_free-app v f x) ∙ put_free-app w (put_free v f) (put_free v x) ∙ (λ i. roll-Term (Term-F.App (hf i) (hx i))) ∙ sym (put_free-app both f x)

  lam : (s : Ty) (b : Term) → Joins b → Joins (roll-Term (Term-F.Lam s b))
  lam s b hb = ap (put_free w) (put_free-lam v s b) ∙ put_free-lam w s (put_free v b) ∙ (λ i. roll-Term (Term-F.Lam s (hb i))) ∙ sym (put_free-lam both s b)

  pub joins : (d : Term) → put_free w (put_free v d) ≡ put_free both d
  joins d = by_cases Joins bound free con app lam d

-- no replacement at all
abbrev itself : ℕ → Ty → Term
itself x s = roll-Term (Term-F.Free x s)

pub put_itself : (d : Term) → put_free itself d ≡ d
put_itself d =
    by_cases (λ z. put_free itself z ≡ z) (λ i. put_free-bound itself i) (λ x s. put_free-free itself x s) (λ k. put_free-con itself k)
    (λ f x hf hx. put_free-app itself f x ∙ (λ i. roll-Term (Term-F.App (hf i) (hx i)))) (λ s b hb. put_free-lam itself s b ∙ (λ i. roll-Term (Term-F.Lam s (hb i)))) d

-- bindings act as one replacement, by what they make of each variable
step : (b : Binding) (bs : List Binding) → ((d : Term) → in_turn bs d ≡ put_free (λ x s. in_turn bs (itself x s)) d) → (x : ℕ) (s : Ty) →
    put_free (λ y r. in_turn bs (itself y r)) (one_put b.number b.ty b.term x s) ≡ in_turn bs (put_one b (itself x s))
step b bs at_once x s = sym (at_once (one_put b.number b.ty b.term x s)) ∙ ap (in_turn bs) (sym (put_free-free (one_put b.number b.ty b.term) x s))

pub in_turn_at_once : (bs : List Binding) (d : Term) → in_turn bs d ≡ put_free (λ x s. in_turn bs (itself x s)) d
in_turn_at_once [] d = sym (put_itself d)
in_turn_at_once (b ∷ bs) d =
    in_turn_at_once bs (put_one b d) ∙ joins (one_put b.number b.ty b.term) (λ x s. in_turn bs (itself x s)) d
    ∙ (λ i. put_free (λ x s. step b bs (λ e. in_turn_at_once bs e) x s i) d)

choose : (bs : List Binding) (c v w : Term) → in_turn bs c ≡ c → in_turn bs v ≡ w → (fits : Bool) → in_turn bs (if fits then c else v) ≡ (if fits then c else w)
choose bs c v w left rest true = left
choose bs c v w left rest false = rest

solved_at : (bs : List Binding) → Solved bs → (x : ℕ) (s : Ty) → in_turn bs (itself x s) ≡ looked_up bs x s
solved_at [] h x s = refl
solved_at (b ∷ bs) h x s =
    ap (in_turn bs) (put_free-free (one_put b.number b.ty b.term) x s) ∙ choose bs b.term (itself x s) (looked_up bs x s) h.0 (solved_at bs h.1 x s) (x == b.number && is_ty s b.ty)

pub solved_at_once : (bs : List Binding) (d : Term) → InTurnIsAtOnce bs d
solved_at_once bs d h = in_turn_at_once bs d ∙ (λ i. put_free (λ x s. solved_at bs h x s i) d)

-- ---- literals
in_turn_neg : (bs : List Binding) (a : Term) → in_turn bs (neg a) ≡ neg (in_turn bs a)
in_turn_neg [] a = refl
in_turn_neg (b ∷ bs) a =
    ap (in_turn bs) (put_free-app (one_put b.number b.ty b.term) (constant konst.Not) a ∙ ap (λ k. apply k (put_one b a)) (put_free-con (one_put b.number b.ty b.term) konst.Not)) ∙ in_turn_neg bs (put_one b a)

in_turn_denied : (bs : List Binding) (a : Term) (pos : Bool) → in_turn bs (if pos then neg a else a) ≡ (if pos then neg (in_turn bs a) else in_turn bs a)
in_turn_denied bs a true = in_turn_neg bs a
in_turn_denied bs a false = refl

denied_instances : (bs : List Binding) (ls : List TypedLiteral) → map (in_turn bs) (map denied ls) ≡ map denied (map (instance bs) ls)
denied_instances bs [] = refl
denied_instances bs (l ∷ ls) = λ i. in_turn_denied bs l.atom l.positive i ∷ denied_instances bs ls i

pub instance_of : (bs : List Binding) (g : TermSet) → InstanceLands bs g
instance_of bs g base ls fixed within = among_image (in_turn bs) base ls (map (instance bs) ls) g fixed (denied_instances bs ls) within
