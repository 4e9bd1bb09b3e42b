-- The places with a mark.
use Rattle.std.proofs.Common.{◌≡◌, ℕ, suc, ◌+◌, Bool, true, false, cond, List, [], ◌∷◌, ◌++◌, sym, ap, ◌∙◌, arith}
use Rattle.std.specs.Prelude.{if◌then◌else◌, Some, slice_get}
use Rattle.std.specs.List.{filter}
use Rattle.std.proofs.lemmas.List.Elements.{filter-append}
use Rattle.std.proofs.lemmas.Option.{get_or_from_slice_get}
use Rattle.tstp_print.specs.Names.{below}
use Rattle.tstp_print.specs.inner.Marking.{is_marked}

-- one place more
pub place_more : (marks : List Bool) (n : ℕ) (b : Bool) (out new : List ℕ) → slice_get marks n ≡ Some b → out ≡ filter (is_marked marks) (below n) → new ≡ out ++ (if b then n ∷ [] else []) →
    new ≡ filter (is_marked marks) (below (n + 1))
place_more marks n b out new is so step =
    let one : n + 1 ≡ suc n = omega arith in
    step ∙ ap (λ l. l ++ cond b (n ∷ []) []) so ∙ ap (λ v. filter (is_marked marks) (below n) ++ cond v (n ∷ []) []) (sym (get_or_from_slice_get marks n b false is)) ∙
    sym (ap (λ k. filter (is_marked marks) (below k)) one ∙ filter-append (is_marked marks) (below n) (n ∷ []))
