-- Under a substitution that fits, terms are read as before, with their variables replaced.
use Rattle.std.proofs.Common.{◌≡◌, ℕ, Bool, true, false, if◌then◌else◌, IsTrue, List, [], ◌∷◌, map, refl, sym, ap, subst, ◌∙◌, Option, Some, None}
use Rattle.hol_terms.specs.declared.ty.Ty.{Ty}
use Rattle.hol_terms.specs.declared.term.Term.{Term}
use Rattle.hol_terms.specs.Types.{is_ty}
use Rattle.hol_terms.specs.Typing.{applied}
use Rattle.hol_terms.specs.Substitution.{put_free}
use Rattle.hol_terms.specs.Formulas.{var_free}
use Rattle.hol_terms.proofs.Equations.{put_free-free, put_free-app}
use Rattle.hol_terms.proofs.Formulas.{var_free_stays}
use Rattle.fo_terms.specs.declared.term.FoTerm.{FoTerm}
use Rattle.fo_terms.specs.Substitution.{var, fun, put}
use Rattle.fo_terms.proofs.Induction.{Each, by_cases}
use Rattle.fo_terms.proofs.Substitution.{put_var, put_fun, map_map}
use Rattle.tagged_terms.specs.declared.symbol.Symbol.{Symbol}
use Rattle.tagged_terms.specs.declared.symbol.Symbol.TheVariants.{Tag, Apply, Constant}
use Rattle.tagged_terms.specs.Readings.{Signs, Types, application, core_of, variable, tagging, applying, read_tag, read_apply, read_constant, read_symbol, reading, IsCore, IsTagged, Reading, Unread, Core, Tagged}
use Rattle.tagged_terms.specs.Fits.{AreClosed, typed_put, Fits}
use Rattle.tagged_terms.specs.Laws.{SubstitutionKeepsReadings}
use Rattle.tagged_terms.proofs.Steps.{read_var, read_fun}

module _ (v : ℕ → Ty → Term) where
  -- what the one is read as, the other is read as with its variables replaced
  abbrev pub Goes : Reading → Reading → Type 0
  Goes Unread q = Unit {0}
  Goes (Core s d) q = q ≡ Core s (put_free v d)
  Goes (Tagged s d) q = q ≡ Tagged s (put_free v d)

  tag_where : (s : Ty) (d : Term) (q : Reading) (test : Bool) → q ≡ (if test then Tagged s (put_free v d) else Unread) → Goes (if test then Tagged s d else Unread) q
  tag_where s d q true h = h
  tag_where s d q false h = tt

  go_tagging : (s : Ty) (r q : Reading) → Goes r q → Goes (tagging s r) (tagging s q)
  go_tagging s Unread q h = tt
  go_tagging s (Core a d) q h = tag_where s d (tagging s q) (is_ty a s) (ap (tagging s) h)
  go_tagging s (Tagged a d) q h = tt

  core_where : (o : Option Ty) (f x : Term) (q : Reading) → q ≡ core_of o (application (put_free v f) (put_free v x)) → Goes (core_of o (application f x)) q
  core_where None f x q h = tt
  core_where (Some s) f x q h = h ∙ ap (Core s) (sym (put_free-app v f x))

  go_applying : (r q r' q' : Reading) → Goes r q → Goes r' q' → Goes (applying r r') (applying q q')
  go_applying Unread q r' q' h k = tt
  go_applying (Core a f) q r' q' h k = tt
  go_applying (Tagged a f) q Unread q' h k = tt
  go_applying (Tagged a f) q (Core b x) q' h k = tt
  go_applying (Tagged a f) q (Tagged b x) q' h k = core_where (applied (Some a) (Some b)) f x (applying q q') (λ i. applying (h i) (k i))

module _ (signs : Signs) (old new : Types) (u : ℕ → FoTerm) (closed : AreClosed signs) (fits : Fits signs old new u) where
  abbrev v : ℕ → Ty → Term
  v = typed_put signs u

  abbrev R : FoTerm → Reading
  R = reading signs old

  abbrev Q : FoTerm → Reading
  Q t = reading signs new (put u t)

  abbrev Kept : FoTerm → Type 0
  Kept t = Goes v (R t) (Q t)

  go_tag : (s : Ty) (ts : List FoTerm) → Each Kept ts → Goes v (read_tag s (map R ts)) (read_tag s (map Q ts))
  go_tag s [] h = tt
  go_tag s (t ∷ []) h = go_tagging v s (R t) (Q t) h.0
  go_tag s (t ∷ t' ∷ ts) h = tt

  go_apply : (ts : List FoTerm) → Each Kept ts → Goes v (read_apply (map R ts)) (read_apply (map Q ts))
  go_apply [] h = tt
  go_apply (t ∷ []) h = tt
  go_apply (t ∷ t' ∷ []) h = go_applying v (R t) (Q t) (R t') (Q t') h.0 h.1.0
  go_apply (t ∷ t' ∷ t'' ∷ ts) h = tt

  go_constant : (d : Term) (s : Ty) (ts : List FoTerm) → IsTrue (var_free d) → Goes v (read_constant d s (map R ts)) (read_constant d s (map Q ts))
  go_constant d s [] h = ap (Core s) (sym (var_free_stays v d h))
  go_constant d s (t ∷ ts) h = tt

  go_symbol : (f : ℕ) (o : Option Symbol) → signs f ≡ o → (ts : List FoTerm) → Each Kept ts → Goes v (read_symbol o (map R ts)) (read_symbol o (map Q ts))
  go_symbol f None is ts h = tt
  go_symbol f (Some (Tag s)) is ts h = go_tag s ts h
  go_symbol f (Some Apply) is ts h = go_apply ts h
  go_symbol f (Some (Constant d s)) is ts h = go_constant d s ts (closed f d s is)

  go_variable : (x : ℕ) (o : Option Ty) → old x ≡ o → Goes v (variable o x) (Q (var x))
  go_variable x None is = tt
  go_variable x (Some s) is = ap (reading signs new) (put_var u x) ∙ fits x s is ∙ ap (Core s) (sym (put_free-free v x s))

  kept_var : (x : ℕ) → Kept (var x)
  kept_var x = subst (λ r. Goes v r (Q (var x))) (sym (read_var signs old x)) (go_variable x (old x) refl)

  read_new : (f : ℕ) (ts : List FoTerm) → Q (fun f ts) ≡ read_symbol (signs f) (map Q ts)
  read_new f ts = ap (reading signs new) (put_fun u f ts) ∙ read_fun signs new f (map (put u) ts) ∙ ap (read_symbol (signs f)) (map_map (reading signs new) (put u) ts)

  kept_fun : (f : ℕ) (ts : List FoTerm) → Each Kept ts → Kept (fun f ts)
  kept_fun f ts h =
      subst (λ r. Goes v r (Q (fun f ts))) (sym (read_fun signs old f ts))
      (subst (λ q. Goes v (read_symbol (signs f) (map R ts)) q) (sym (read_new f ts)) (go_symbol f (signs f) refl ts h))

  kept : (t : FoTerm) → Kept t
  kept = by_cases Kept kept_var kept_fun

  pub core_kept : (t : FoTerm) (s : Ty) (d : Term) → IsCore signs old t s d → IsCore signs new (put u t) s (put_free v d)
  core_kept t s d h = subst (λ r. Goes v r (Q t)) h (kept t)

  pub tagged_kept : (t : FoTerm) (s : Ty) (d : Term) → IsTagged signs old t s d → IsTagged signs new (put u t) s (put_free v d)
  tagged_kept t s d h = subst (λ r. Goes v r (Q t)) h (kept t)

pub readings_kept : (t : FoTerm) → SubstitutionKeepsReadings t
readings_kept t signs old new u closed fits s d = (core_kept signs old new u closed fits t s d, tagged_kept signs old new u closed fits t s d)
