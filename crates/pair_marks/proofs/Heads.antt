-- Terms that meet share a mark, and renaming changes no top.
use Rattle.std.proofs.Common.{◌≡◌, ℕ, ◌<◌, ◌≤◌, List, [], ◌∷◌, map, Some, None, refl, sym, ap, subst, ◌∙◌, arith}
use Rattle.fo_terms.specs.declared.term.FoTerm.{FoTerm, out-FoTerm}
use Rattle.fo_terms.specs.declared.term.FoTerm.TheOpen.{FoTerm-F}
use Rattle.fo_terms.specs.declared.term.FoTerm.TheVariants.{outs-Var, outs-Fun}
use Rattle.fo_terms.specs.Substitution.{var, fun, put}
use Rattle.fo_terms.proofs.Induction.{by_cases}
use Rattle.fo_terms.proofs.Substitution.{put_var, put_fun}
use Rattle.fo_infer.specs.inner.Meeting.{Meet}
use Rattle.fo_infer.proofs.Meetings.{meet_parts}
use Rattle.pair_marks.specs.declared.tops.Top.{Top}
use Rattle.pair_marks.specs.declared.tops.Top.TheVariants.{Any, Over, Pair}
use Rattle.pair_marks.specs.Tops.{single_layer_top, single_top, args_top, layer_top, term_top, top_symbol}
use Rattle.pair_marks.specs.Words.{needed, offered, symbol_marks, Share}
use Rattle.pair_marks.specs.Sets.{need, offer, AllShare}
use Rattle.pair_marks.proofs.Bits.{all_needed, all_offered, sole_shared, over_shared, pair_shared, any_symbol, symbol_any, symbol_shared}

top_var : (x : ℕ) → term_top (var x) ≡ Any
top_var x = ap layer_top (outs-Var x)

top_fun : (f : ℕ) (args : List FoTerm) → term_top (fun f args) ≡ args_top f args
top_fun f args = ap layer_top (outs-Fun f args)

single_var : (f x : ℕ) → single_top f (var x) ≡ Over f
single_var f x = ap (single_layer_top f) (outs-Var x)

single_fun : (f g : ℕ) (args : List FoTerm) → single_top f (fun g args) ≡ Pair f g
single_fun f g args = ap (single_layer_top f) (outs-Fun g args)

-- ---- one word of marks

module _ (m : ℕ) (above : 0 < m) (within : m ≤ 64) where
  abbrev Shared : Top → Top → Type 0
  Shared s t = Share (needed m s) (offered m t)

  shared_tops : (s s' t t' : Top) → s ≡ s' → t ≡ t' → Shared s' t' → Shared s t
  shared_tops s s' t t' is it h = subst (Shared s) (sym it) (subst (λ top. Shared top t') (sym is) h)

  -- under one symbol, and a variable is met
  over_any : (f : ℕ) (t : FoTerm) → Shared (Over f) (single_top f t)
  over_any f = by_cases (λ t. Shared (Over f) (single_top f t))
      (λ y. shared_tops (Over f) (Over f) (single_top f (var y)) (Over f) refl (single_var f y) (all_offered m above within (Over f)))
      (λ g args each. shared_tops (Over f) (Over f) (single_top f (fun g args)) (Pair f g) refl (single_fun f g args) (over_shared m above within f g))

  single_share : (f : ℕ) (s t : FoTerm) → Meet s t → Shared (single_top f s) (single_top f t)
  single_share f = by_cases (λ s. (t : FoTerm) → Meet s t → Shared (single_top f s) (single_top f t))
      (λ x t met. shared_tops (single_top f (var x)) (Over f) (single_top f t) (single_top f t) (single_var f x) refl (over_any f t))
      (λ g xs each. by_cases (λ t. Meet (fun g xs) t → Shared (single_top f (fun g xs)) (single_top f t))
      (λ y met. shared_tops (single_top f (fun g xs)) (Pair f g) (single_top f (var y)) (Over f) (single_fun f g xs) (single_var f y) (all_offered m above within (Pair f g)))
      (λ h ys more met. shared_tops (single_top f (fun g xs)) (Pair f g) (single_top f (fun h ys)) (Pair f h) (single_fun f g xs) (single_fun f h ys)
      (subst (λ k. Shared (Pair f g) (Pair f k)) (meet_parts (fun g xs) (fun h ys) g h xs ys refl refl met).0 (pair_shared m above within f g))))

  args_share : (v w : ℕ → FoTerm) (f : ℕ) (xs ys : List FoTerm) → map (put v) xs ≡ map (put w) ys → Shared (args_top f xs) (args_top f ys)
  args_share v w f [] [] e = sole_shared m above within f
  args_share v w f [] (y ∷ ys) e = cc
  args_share v w f (x ∷ []) [] e = cc
  args_share v w f (x ∷ []) (y ∷ []) e = let same : put v x ≡ put w y = cc in single_share f x y (v, w, same)
  args_share v w f (x ∷ []) (y ∷ z ∷ ys) e = cc
  args_share v w f (x ∷ z ∷ xs) [] e = cc
  args_share v w f (x ∷ z ∷ xs) (y ∷ []) e = cc
  args_share v w f (x ∷ z ∷ xs) (y ∷ u ∷ ys) e = sole_shared m above within f

  -- the law: terms that meet share a mark
  meet_share : (s t : FoTerm) → Meet s t → Shared (term_top s) (term_top t)
  meet_share = by_cases (λ s. (t : FoTerm) → Meet s t → Shared (term_top s) (term_top t))
      (λ x t met. shared_tops (term_top (var x)) Any (term_top t) (term_top t) (top_var x) refl (all_needed m above within (term_top t)))
      (λ f xs each. by_cases (λ t. Meet (fun f xs) t → Shared (term_top (fun f xs)) (term_top t))
      (λ y met. shared_tops (term_top (fun f xs)) (args_top f xs) (term_top (var y)) Any (top_fun f xs) (top_var y) (all_offered m above within (args_top f xs)))
      (λ g ys more met.
      let parts = meet_parts (fun f xs) (fun g ys) f g xs ys refl refl met in
      shared_tops (term_top (fun f xs)) (args_top f xs) (term_top (fun g ys)) (args_top g ys) (top_fun f xs) (top_fun g ys)
      (subst (λ k. Shared (args_top f xs) (args_top k ys)) parts.0 (args_share met.0 met.1 f xs ys parts.1))))

-- ---- the symbols alone

single_symbol : (f : ℕ) (l : FoTerm-F FoTerm) → top_symbol (single_layer_top f l) ≡ Some f
single_symbol f (FoTerm-F.Var x) = refl
single_symbol f (FoTerm-F.Fun g args) = refl

args_symbol : (f : ℕ) (args : List FoTerm) → top_symbol (args_top f args) ≡ Some f
args_symbol f [] = refl
args_symbol f (t ∷ []) = single_symbol f (out-FoTerm t)
args_symbol f (t ∷ u ∷ more) = refl

symbol_var : (x : ℕ) → top_symbol (term_top (var x)) ≡ None
symbol_var x = ap top_symbol (top_var x)

symbol_fun : (f : ℕ) (args : List FoTerm) → top_symbol (term_top (fun f args)) ≡ Some f
symbol_fun f args = ap top_symbol (top_fun f args) ∙ args_symbol f args

module _ (m : ℕ) (above : 0 < m) (within : m ≤ 64) where
  symbols_share : (s t : FoTerm) → Meet s t → Share (symbol_marks m (top_symbol (term_top s))) (symbol_marks m (top_symbol (term_top t)))
  symbols_share = by_cases (λ s. (t : FoTerm) → Meet s t → Share (symbol_marks m (top_symbol (term_top s))) (symbol_marks m (top_symbol (term_top t))))
      (λ x t met. subst (λ o. Share (symbol_marks m o) (symbol_marks m (top_symbol (term_top t)))) (sym (symbol_var x)) (any_symbol m above within (top_symbol (term_top t))))
      (λ f xs each. by_cases (λ t. Meet (fun f xs) t → Share (symbol_marks m (top_symbol (term_top (fun f xs)))) (symbol_marks m (top_symbol (term_top t))))
      (λ y met. subst (λ o. Share (symbol_marks m (top_symbol (term_top (fun f xs)))) (symbol_marks m o)) (sym (symbol_var y)) (symbol_any m above within (top_symbol (term_top (fun f xs)))))
      (λ g ys more met.
      let same : top_symbol (term_top (fun f xs)) ≡ top_symbol (term_top (fun g ys)) = symbol_fun f xs ∙ ap Some (meet_parts (fun f xs) (fun g ys) f g xs ys refl refl met).0 ∙ sym (symbol_fun g ys) in
      subst (λ o. Share (symbol_marks m (top_symbol (term_top (fun f xs)))) (symbol_marks m o)) same (symbol_shared m above within (top_symbol (term_top (fun f xs))))))

-- ---- all four

pub all_share : (s t : FoTerm) → Meet s t → AllShare (need (term_top s)) (offer (term_top t))
all_share s t met = record {
  a = meet_share 64 (omega arith) (omega arith) s t met;
  b = meet_share 61 (omega arith) (omega arith) s t met;
  c = meet_share 59 (omega arith) (omega arith) s t met;
  symbols = symbols_share 64 (omega arith) (omega arith) s t met;
}

-- ---- renaming

module _ (rename : ℕ → ℕ) where
  single_renamed : (f : ℕ) (t : FoTerm) → single_top f (put (λ x. var (rename x)) t) ≡ single_top f t
  single_renamed f = by_cases (λ t. single_top f (put (λ x. var (rename x)) t) ≡ single_top f t)
      (λ x. ap (single_top f) (put_var (λ y. var (rename y)) x) ∙ single_var f (rename x) ∙ sym (single_var f x))
      (λ g args each. ap (single_top f) (put_fun (λ y. var (rename y)) g args) ∙ single_fun f g (map (put (λ y. var (rename y))) args) ∙ sym (single_fun f g args))

  args_renamed : (f : ℕ) (args : List FoTerm) → args_top f (map (put (λ x. var (rename x))) args) ≡ args_top f args
  args_renamed f [] = refl
  args_renamed f (t ∷ []) = single_renamed f t
  args_renamed f (t ∷ u ∷ more) = refl

  pub top_renamed : (t : FoTerm) → term_top (put (λ x. var (rename x)) t) ≡ term_top t
  top_renamed = by_cases (λ t. term_top (put (λ x. var (rename x)) t) ≡ term_top t)
      (λ x. ap term_top (put_var (λ y. var (rename y)) x) ∙ top_var (rename x) ∙ sym (top_var x))
      (λ f args each. ap term_top (put_fun (λ y. var (rename y)) f args) ∙ top_fun f (map (put (λ y. var (rename y))) args) ∙ args_renamed f args ∙ sym (top_fun f args))
