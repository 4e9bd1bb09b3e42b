-- Paths behind a path.
use Rattle.std.proofs.Common.{◌≡◌, ℕ, ◌+◌, length, arith, List, [], ◌∷◌, ◌++◌, map, refl, sym, ap, ◌∙◌, append_assoc}
use Rattle.std.specs.Prelude.{Option, Some, None, MatchOption}
use Rattle.std.proofs.lemmas.List.{map-append, append-nil, length-append}
use Rattle.hol_terms.specs.declared.ty.Ty.{Ty}
use Rattle.hol_terms.specs.declared.term.Term as term
use Rattle.hol_terms.specs.declared.term.Term.{Term}
use Rattle.lambda_lift.specs.Redexes.{below, spine, redexes}
use Rattle.lambda_lift.proofs.Made.{app_is, lam_is}
use Rattle.lambda_lift.proofs.Along.{spine_app, redexes_app, redexes_under, redexes_applied}

front : List ℕ → List ℕ
front [] = []
front (x ∷ []) = []
front (x ∷ y ∷ ys) = x ∷ front (y ∷ ys)

front_more : (x : ℕ) (xs : List ℕ) (d : ℕ) → front (x ∷ xs ++ d ∷ []) ≡ x ∷ front (xs ++ d ∷ [])
unfolding front
front_more x [] d = refl
front_more x (y ∷ ys) d = refl

front_push : (xs : List ℕ) (d : ℕ) → front (xs ++ d ∷ []) ≡ xs
unfolding front
front_push [] d = refl
front_push (x ∷ xs) d = front_more x xs d ∙ ap (λ l. x ∷ l) (front_push xs d)

pub same_front : (xs ys : List ℕ) (x y : ℕ) → xs ++ x ∷ [] ≡ ys ++ y ∷ [] → xs ≡ ys
same_front xs ys x y h = sym (front_push xs x) ∙ ap front h ∙ front_push ys y

abbrev pub behind : List ℕ → List (List ℕ) → List (List ℕ)
behind path ps = map (λ p. path ++ p) ps

pub one_further : (path : List ℕ) (d : ℕ) (ps : List (List ℕ)) → behind (path ++ d ∷ []) ps ≡ behind path (below d ps)
one_further path d [] = refl
one_further path d (p ∷ ps) = (λ i. append_assoc path (d ∷ []) p i ∷ one_further path d ps i)

module _ (path : List ℕ) where
  pub app_paths : (f x g y s t : Term) (out one two : List (List ℕ)) → s ≡ term.App f x → t ≡ term.App g y → one ≡ out ++ behind (path ++ 0 ∷ []) (redexes f g) →
      two ≡ one ++ behind (path ++ 1 ∷ []) (redexes x y) → two ≡ out ++ behind path (redexes s t)
  app_paths f x g y s t out one two is to h k =
      k ∙ (λ i. h i ++ one_further path 1 (redexes x y) i) ∙ ap (λ l. (out ++ l) ++ behind path (below 1 (redexes x y))) (one_further path 0 (redexes f g))
      ∙ append_assoc out (behind path (below 0 (redexes f g))) (behind path (below 1 (redexes x y))) ∙ ap (λ l. out ++ l) (sym (map-append (λ p. path ++ p) (below 0 (redexes f g)) (below 1 (redexes x y))))
      ∙ ap (λ l. out ++ behind path l) (sym (redexes_app f x g y)) ∙ (λ i. out ++ behind path (redexes (sym (is ∙ app_is f x) i) (sym (to ∙ app_is g y) i)))

  pub under_paths : (a c : Ty) (b d s t : Term) (out one : List (List ℕ)) → s ≡ term.Lam a b → t ≡ term.Lam c d → one ≡ out ++ behind (path ++ 2 ∷ []) (redexes b d) → one ≡ out ++ behind path (redexes s t)
  under_paths a c b d s t out one is to h =
      h ∙ ap (λ l. out ++ l) (one_further path 2 (redexes b d)) ∙ ap (λ l. out ++ behind path l) (sym (redexes_under a b c d))
      ∙ (λ i. out ++ behind path (redexes (sym (is ∙ lam_is a b) i) (sym (to ∙ lam_is c d) i)))

  pub spine_paths : (f x t : Term) (out one two : List (List ℕ)) → t ≡ term.App f x → one ≡ out ++ behind (path ++ 0 ∷ []) (spine f) → two ≡ one ++ path ∷ [] → two ≡ out ++ behind path (spine t)
  spine_paths f x t out one two is h k =
      k ∙ (λ i. h i ++ sym (append-nil path) i ∷ []) ∙ ap (λ l. (out ++ l) ++ behind path ([] ∷ [])) (one_further path 0 (spine f))
      ∙ append_assoc out (behind path (below 0 (spine f))) (behind path ([] ∷ [])) ∙ ap (λ l. out ++ l) (sym (map-append (λ p. path ++ p) (below 0 (spine f)) ([] ∷ [])))
      ∙ ap (λ l. out ++ behind path l) (sym (spine_app f x)) ∙ (λ i. out ++ behind path (spine (sym (is ∙ app_is f x) i)))

pub from_root : (ps : List (List ℕ)) → behind [] ps ≡ ps
from_root [] = refl
from_root (p ∷ ps) = ap (λ l. p ∷ l) (from_root ps)

pub popped : (o : Option ℕ) (old new : List ℕ) → MatchOption o ((old ≡ []) × (new ≡ [])) (λ last. old ≡ new ++ last ∷ []) → (p : List ℕ) (d : ℕ) → old ≡ p ++ d ∷ [] → new ≡ p
popped None old new h p d e = absurd (let sizes : length old ≡ length p + 1 = ap length e ∙ length-append p (d ∷ []) in let none : length old ≡ 0 = ap length h.0 in omega arith)
popped (Some last) old new h p d e = same_front new p last d (sym h ∙ e)

pub spine_is : (s t : Term) (a : Ty) (b f x : Term) → s ≡ term.Lam a b → t ≡ term.App f x → redexes s t ≡ spine t
spine_is s t a b f x is to = (λ i. redexes ((is ∙ lam_is a b) i) ((to ∙ app_is f x) i)) ∙ redexes_applied a b f x ∙ ap spine (sym (to ∙ app_is f x))
