-- How a fault of a part is a fault of what stands around it, and how a part stops.
use Rattle.std.proofs.Common.{◌≡◌, ◌⊎◌, inl, inr, ℕ, ◌+◌, ◌≤◌, ◌<◌, List, [], ◌∷◌, ◌++◌, length, take, None, refl, sym, ap, subst, append_assoc, ◌∙◌, arith}
use Rattle.first_fault.specs.Levels.{Within}
use Rattle.first_fault.specs.Walk.{after}
use Rattle.first_fault.proofs.Fronts.{put-append, goes-append, within-append}
use Rattle.proof_syntax.specs.declared.fault.PartFault.{PartFault}
use Rattle.proof_syntax.specs.declared.fault.PartFault.TheVariants as fault
use Rattle.proof_syntax.specs.Tokens.{Sign, Tok, Word, Mark, cut, spelled}
use Rattle.proof_syntax.specs.Names.{Names}
use Rattle.proof_syntax.specs.Grammar.{Placed, at, most}
use Rattle.proof_syntax.specs.Machine.{put, goes, Done, Stuck, run, State, step, accepted}
use Rattle.proof_syntax.specs.Parts.{end_of, SharesPart, IntoPart, Fails, IsNot}
use Rattle.proof_syntax.proofs.Cutting.{cut_length}

-- the walks of the outer part come through `p` to where the inner part is wanted
abbrev pub Walks : Names → (I I' : Type 0) → (I → State) → (I' → State) → List Placed → Type 0
Walks names I I' st st' p = (i : I) → (j : I') × ((rest : List Tok) → run names (st i) (put p rest) ≡ goes p (run names (st' j) rest))

module _ (names : Names) (B B' : List Placed → Type 0) (I I' : Type 0) (st : I → State) (st' : I' → State) (p : List Placed)
    (lift : (q : List Placed) → B' q → B (p ++ q)) (walk : Walks names I I' st st' p) where
  lift_token : (q : List Placed) (x : Placed) → B' (q ++ x ∷ []) → B ((p ++ q) ++ x ∷ [])
  lift_token q x b = subst B (sym (append_assoc p q (x ∷ []))) (lift (q ++ x ∷ []) b)

  walk_on : (q : List Placed) (rest : List Tok) (i : I) (r : _) → run names (st' (walk i).0) (put q rest) ≡ goes q r →
      run names (st i) (put (p ++ q) rest) ≡ goes (p ++ q) r
  walk_on q rest i r h =
      ap (λ xs. run names (st i) xs) (put-append p q rest) ∙ (walk i).1 (put q rest) ∙ ap (λ t. goes p t) h ∙ sym (goes-append p q r)

  shares : (q : List Placed) (w : List ℕ) (n : ℕ) → SharesPart names B' I' st' q w n → SharesPart names B I st (p ++ q) w n
  shares q w n h = record {
    room = h.room;
    some = elim h.some [ inl none ↦ inl none | inr s ↦ inr (s.0, (s.1.0, lift_token q (at s.1.0 (Word s.0)) s.1.1), s.2) ];
    most = λ v same i others. walk_on q (Word v ∷ others) i Stuck (h.most v same (walk i).0 others);
  }

  goes_into : (q : List Placed) (rest : List Tok) (n : ℕ) → IntoPart names B' I' st' q rest n → IntoPart names B I st (p ++ q) rest n
  goes_into q [] n h = h
  goes_into q (Mark s ∷ rest) n h = h
  goes_into q (Word w ∷ rest) n h = shares q w n h

  -- the inner part begins behind `p`
  pub inside : (text inner : List ℕ) → cut text ≡ put p (cut inner) → Within most p → (e : PartFault) → Fails names B' I' st' inner e → Fails names B I st text e
  inside text inner eq low (fault.Stops left) h = record {
    before = p ++ h.before;
    rest = h.rest;
    tokens = eq ∙ ap (λ xs. put p xs) h.tokens ∙ sym (put-append p h.before h.rest);
    within = within-append most p h.before low h.within;
    begins = lift h.before h.begins;
    stuck = λ i. ap (λ xs. run names (st i) xs) eq ∙ (walk i).1 (cut inner) ∙ ap (λ r. goes p r) (h.stuck (walk i).0) ∙ sym (goes-append p h.before (end_of h.rest));
    into = h.into;
    is_into = goes_into h.before h.rest h.into h.is_into;
    count = h.count;
  }
  inside text inner eq low (fault.GoesBeyond left) h = record {
    before = p ++ h.before;
    token = h.token;
    level = h.level;
    rest = h.rest;
    tokens = eq ∙ ap (λ xs. put p xs) h.tokens ∙ sym (put-append p h.before (h.token ∷ h.rest));
    within = within-append most p h.before low h.within;
    begins = lift_token h.before (at h.level h.token) h.begins;
    above = h.above;
    count = h.count;
  }
  inside text inner eq low fault.NoMemory h = tt

-- the state doesn't take the token at the front; where a word stands there, no word
abbrev pub Refuses : Names → State → List Tok → Type 0
Refuses names s [] = accepted s ≡ None
Refuses names s (Mark m ∷ rest) = step names s (Mark m) ≡ None
Refuses names s (Word w ∷ rest) = (v : List ℕ) → step names s (Word v) ≡ None

-- a state that takes one sign alone
pub refuses_but : (names : Names) (s : State) (m : Sign) → accepted s ≡ None → ((x : Tok) → (x ≡ Mark m → ⊥) → step names s x ≡ None) →
    (ts : List Tok) → IsNot (Mark m) ts → Refuses names s ts
refuses_but names s m end others [] n = end
refuses_but names s m end others (Mark k ∷ rest) n = others (Mark k) (λ e. n rest (ap (λ x. x ∷ rest) e))
refuses_but names s m end others (Word w ∷ rest) n = λ v. others (Word v) (λ e. cc)

-- nothing goes on behind `p`, where the walks are in the states `s`
module _ (names : Names) (B : List Placed → Type 0) (I : Type 0) (st s : I → State) (p : List Placed)
    (walk : (i : I) (rest : List Tok) → run names (st i) (put p rest) ≡ goes p (run names (s i) rest))
    (text bytes : List ℕ) (eq : cut text ≡ put p (cut bytes)) (low : Within most p) where
  sticks : (i : I) (x : Tok) (rest : List Tok) → step names (s i) x ≡ None → run names (st i) (put p (x ∷ rest)) ≡ goes p Stuck
  sticks i x rest h = walk i (x ∷ rest) ∙ ap (λ r. goes p r) (ap (λ o. after o (λ t. run names t rest)) h)

  ends : (ts : List Tok) → ((i : I) → Refuses names (s i) ts) → (i : I) → run names (st i) (put p ts) ≡ goes p (end_of ts)
  ends [] h i = walk i [] ∙ ap (λ o. goes p (Done o)) (h i)
  ends (Mark m ∷ rest) h i = sticks i (Mark m) rest (h i)
  ends (Word w ∷ rest) h i = sticks i (Word w) rest (h i w)

  ends_into : (ts : List Tok) → ((i : I) → Refuses names (s i) ts) → IntoPart names B I st p ts 0
  ends_into [] h = refl
  ends_into (Mark m ∷ rest) h = refl
  ends_into (Word w ∷ rest) h = record { room = omega arith; some = inl refl; most = λ v same i others. sticks i (Word v) others (h i v) }

  -- at the first byte of a token, or at the end
  pub here : B p → ((i : I) → Refuses names (s i) (cut bytes)) → Fails names B I st text (fault.Stops (length bytes))
  here begins h = record {
    before = p;
    rest = cut bytes;
    tokens = eq;
    within = low;
    begins = begins;
    stuck = λ i. ap (λ xs. run names (st i) xs) eq ∙ ends (cut bytes) h i;
    into = 0;
    is_into = ends_into (cut bytes) h;
    count = let same = cut_length bytes in omega arith;
  }

  -- in a word of which `n` bytes still go on, as those of a word that is meant
  pub here_in : (w : List ℕ) (rest : List Tok) (n left : ℕ) → cut bytes ≡ Word w ∷ rest → left + n ≡ length bytes → B p → n ≤ length w →
      ((n ≡ 0) ⊎ ((v : List ℕ) × ((l : ℕ) × B (p ++ at l (Word v) ∷ [])) × (take n v ≡ take n w))) →
      ((v : List ℕ) → take (n + 1) v ≡ take (n + 1) w → (i : I) → step names (s i) (Word v) ≡ None) → Fails names B I st text (fault.Stops left)
  here_in w rest n left is count begins room some others =
      let tokens = eq ∙ ap (λ xs. put p xs) is in
      record {
        before = p;
        rest = Word w ∷ rest;
        tokens = tokens;
        within = low;
        begins = begins;
        stuck = λ i. ap (λ xs. run names (st i) xs) tokens ∙ sticks i (Word w) rest (others w refl i);
        into = n;
        is_into = record { room = room; some = some; most = λ v same i more. sticks i (Word v) more (others v same i) };
        count = count ∙ sym (cut_length bytes) ∙ ap (λ xs. length (spelled xs)) is;
      }

  -- at a token whose level is above the limit
  pub here_beyond : (x : Tok) (l : ℕ) (rest : List Tok) → cut bytes ≡ x ∷ rest → B (p ++ at l x ∷ []) → most < l → Fails names B I st text (fault.GoesBeyond (length bytes))
  here_beyond x l rest is begins above = record {
    before = p;
    token = x;
    level = l;
    rest = rest;
    tokens = eq ∙ ap (λ xs. put p xs) is;
    within = low;
    begins = begins;
    above = above;
    count = sym (cut_length bytes) ∙ ap (λ xs. length (spelled xs)) is;
  }
