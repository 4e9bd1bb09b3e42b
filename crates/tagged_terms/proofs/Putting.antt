-- Free variables are replaced one after another, and at once.
use Rattle.std.proofs.Common.{◌≡◌, ℕ, List, [], ◌∷◌, refl, sym, ◌∙◌, ap, Bool, true, false, ◌&&◌, if◌then◌else◌, ◌==◌}
use Rattle.hol_terms.specs.declared.ty.Ty.{Ty}
use Rattle.hol_terms.specs.declared.konst.Konst.{Konst}
use Rattle.hol_terms.specs.declared.term.Term.{Term, roll-Term}
use Rattle.hol_terms.specs.declared.term.Term.TheOpen.{Term-F}
use Rattle.hol_terms.specs.Types.{is_ty}
use Rattle.hol_terms.specs.Substitution.{put_free, one_put}
use Rattle.hol_terms.proofs.TermCases.{by_cases}
use Rattle.hol_terms.proofs.Equations.{put_free-bound, put_free-free, put_free-con, put_free-app, put_free-lam}
use Rattle.tagged_terms.specs.declared.symbol.Instance.{Instance}
use Rattle.tagged_terms.specs.Readings.{free, application}
use Rattle.tagged_terms.specs.Instances.{in_turn, at_once, Settled}
use Rattle.tagged_terms.specs.Laws.{ReplacementsJoin, InTurnIsAtOnce}

-- two replacements are one
module _ (v w : ℕ → Ty → Term) where
  abbrev after : ℕ → Ty → Term
  after x s = put_free w (v x s)

  abbrev Joins : Term → Type 0
  Joins d = put_free w (put_free v d) ≡ put_free after d

  bound : (i : ℕ) → Joins (roll-Term (Term-F.Bound i))
  bound i = ap (put_free w) (put_free-bound v i) ∙ put_free-bound w i ∙ sym (put_free-bound after i)

  variable : (x : ℕ) (s : Ty) → Joins (free x s)
  variable x s = ap (put_free w) (put_free-free v x s) ∙ sym (put_free-free after x s)

  con : (k : Konst) → Joins (roll-Term (Term-F.Con k))
  con k = ap (put_free w) (put_free-con v k) ∙ put_free-con w k ∙ sym (put_free-con after k)

  app : (f x : Term) → Joins f → Joins x → Joins (application f x)
  app f x hf hx = ap (put_free w) (put_free-app v f x) ∙ put_free-app w (put_free v f) (put_free v x) ∙ (λ i. application (hf i) (hx i)) ∙ sym (put_free-app after f x)

  lam : (s : Ty) (b : Term) → Joins b → Joins (roll-Term (Term-F.Lam s b))
  lam s b hb = ap (put_free w) (put_free-lam v s b) ∙ put_free-lam w s (put_free v b) ∙ (λ i. roll-Term (Term-F.Lam s (hb i))) ∙ sym (put_free-lam after s b)

  pub joins : (d : Term) → put_free w (put_free v d) ≡ put_free after d
  joins d = by_cases Joins bound variable con app lam d

pub replacements_join : (d : Term) → ReplacementsJoin d
replacements_join d v w = joins v w d

-- no replacement at all
pub put_itself : (d : Term) → put_free free d ≡ d
put_itself d =
    by_cases (λ z. put_free free z ≡ z) (λ i. put_free-bound free i) (λ x s. put_free-free free x s) (λ k. put_free-con free k)
    (λ f x hf hx. put_free-app free f x ∙ (λ i. application (hf i) (hx i))) (λ s b hb. put_free-lam free s b ∙ (λ i. roll-Term (Term-F.Lam s (hb i)))) d

-- instances in turn act as one replacement, by what they make of each variable
step : (p : Instance) (ps : List Instance) → ((d : Term) → in_turn ps d ≡ put_free (λ x s. in_turn ps (free x s)) d) → (x : ℕ) (s : Ty)
    → put_free (λ y r. in_turn ps (free y r)) (one_put p.var p.ty p.term x s) ≡ in_turn ps (put_free (one_put p.var p.ty p.term) (free x s))
step p ps turn x s = sym (turn (one_put p.var p.ty p.term x s)) ∙ ap (in_turn ps) (sym (put_free-free (one_put p.var p.ty p.term) x s))

pub in_turn_put : (ps : List Instance) (d : Term) → in_turn ps d ≡ put_free (λ x s. in_turn ps (free x s)) d
in_turn_put [] d = sym (put_itself d)
in_turn_put (p ∷ ps) d =
    in_turn_put ps (put_free (one_put p.var p.ty p.term) d) ∙ joins (one_put p.var p.ty p.term) (λ x s. in_turn ps (free x s)) d
    ∙ (λ i. put_free (λ x s. step p ps (λ e. in_turn_put ps e) x s i) d)

choose : (ps : List Instance) (c : Term) (x : ℕ) (s : Ty) → in_turn ps c ≡ c → in_turn ps (free x s) ≡ at_once ps x s → (test : Bool)
    → in_turn ps (if test then c else free x s) ≡ (if test then c else at_once ps x s)
choose ps c x s left rest true = left
choose ps c x s left rest false = rest

settled_at : (ps : List Instance) → Settled ps → (x : ℕ) (s : Ty) → in_turn ps (free x s) ≡ at_once ps x s
settled_at [] h x s = refl
settled_at (p ∷ ps) h x s = ap (in_turn ps) (put_free-free (one_put p.var p.ty p.term) x s) ∙ choose ps p.term x s h.0 (settled_at ps h.1 x s) (x == p.var && is_ty s p.ty)

pub settled_put : (d : Term) → InTurnIsAtOnce d
settled_put d ps h = in_turn_put ps d ∙ (λ i. put_free (λ x s. settled_at ps h x s i) d)
