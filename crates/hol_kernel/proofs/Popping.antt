-- The last item taken away.
use Rattle.std.proofs.Common.{◌≡◌, ◌+◌, List, [], ◌∷◌, ◌++◌, length, Some, None, sym, ◌∙◌, ap, arith, length-append}
use Rattle.std.specs.Prelude.{Option, MatchOption, Result, Ok, Err, OnOk, OnErr}
use Rattle.std.proofs.lemmas.List.{same_from_push}

pub pop_back : {X : Type 0} (o : Option X) (old new front : List X) (x : X) → MatchOption o ((old ≡ []) × (new ≡ [])) (λ last. old ≡ new ++ last ∷ []) → old ≡ front ++ x ∷ [] → new ≡ front
pop_back None old new front x h e =
    absurd (let sizes : length old ≡ 0 = ap length h.0 in let more : length old ≡ length front + length (x ∷ []) = ap length e ∙ length-append front (x ∷ []) in omega arith)
pop_back (Some last) old new front x h e = (same_from_push new front last x (sym h ∙ e)).0

-- what is pushed and taken away again
pub back_to : {X T E : Type 0} (r : Result T E) (old mid new : List X) (x : X) → mid ≡ old ++ x ∷ [] → OnErr r ((q : X) → (front : List X) → mid ≡ front ++ q ∷ [] → new ≡ front) → OnErr r (new ≡ old)
back_to (Ok u) old mid new x h last = tt
back_to (Err e) old mid new x h last = last x old h

-- what is pushed stays where no more is taken
pub on_to : {X T E : Type 0} (r : Result T E) (old mid new : List X) → mid ≡ old → OnOk r (new ≡ mid) → OnOk r (new ≡ old)
on_to (Ok u) old mid new e h = h ∙ e
on_to (Err x) old mid new e h = tt
