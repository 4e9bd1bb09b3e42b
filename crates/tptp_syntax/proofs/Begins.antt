-- What has come goes on to a whole: the shortest parts that are still due complete it.
use Rattle.std.proofs.Common.{◌≡◌, ℕ, ◌-◌, Bool, true, false, List, [], ◌∷◌, ◌++◌, refl, sym, subst, append_assoc}
use Rattle.fo_terms.specs.declared.term.FoTerm.{FoTerm, Fun}
use Rattle.fo_terms.specs.declared.formula.FoFormula.{FoFormula}
use Rattle.fo_terms.specs.declared.formula.FoFormula.TheVariants as formula
use Rattle.tptp_syntax.specs.declared.tokens.Tok.TheVariants as tok
use Rattle.tptp_syntax.specs.declared.sorts.Mode.{Mode}
use Rattle.tptp_syntax.specs.declared.sorts.Mode.TheVariants as mode
use Rattle.tptp_syntax.specs.declared.sorts.Skip.{Skip}
use Rattle.tptp_syntax.specs.declared.sorts.Skip.TheVariants as skip
use Rattle.tptp_syntax.specs.declared.frames.Frame.{Frame}
use Rattle.tptp_syntax.specs.declared.frames.Frame.TheVariants as frame
use Rattle.tptp_syntax.specs.declared.reader.Spot.{Spot}
use Rattle.tptp_syntax.specs.declared.reader.Spot.TheVariants as spot
use Rattle.tptp_syntax.specs.declared.reader.Reader.{Reader}
use Rattle.tptp_syntax.specs.Grammar as g
use Rattle.tptp_syntax.specs.Grammar.{Placed, at, Table, equation, join, couple, quantified, first_kind, IsSkipped, is_conjecture, may_stand, Listed}
use Rattle.tptp_syntax.specs.inner.Machine.{round_mode, finished}
use Rattle.tptp_syntax.proofs.Runs.{set}
use Rattle.tptp_syntax.proofs.CompleteLists.{opened}
use Rattle.tptp_syntax.proofs.Come.{AtTop, AtSkip, AtEnd, After, AfterAtom, AfterTerm, AtFormula, AtRole, AtName, Come}

module _ (W : List Placed → Listed → Type 0) where
  abbrev pub GoesOn : List Placed → Type 0
  GoesOn p = (q : List Placed) × (v : Listed) × W (p ++ q) v

  front : (p q : List Placed) → GoesOn (p ++ q) → GoesOn p
  front p q h = (q ++ h.0, h.1, subst (λ z. W z h.1) (append_assoc p q h.0) h.2)

  from_top : (r : Reader) (p : List Placed) → AtTop W r p → GoesOn p
  from_top r p h = ([], _, h [] _ g.end)

  some_skip : (l : ℕ) (s : Skip) → (q : List Placed) × IsSkipped l s q
  some_skip l skip.Behind = ([], g.end refl)
  some_skip l skip.Begun = (at 0 tok.Dot ∷ [], g.token refl (g.end refl))
  some_skip l skip.Within = ([], g.end refl)
  some_skip l skip.Group = ([], g.end refl)

  from_skip : (r : Reader) (k : List Frame) (l : ℕ) (s : Skip) (p : List Placed) → AtSkip W r l s k p → GoesOn p
  from_skip r [] l s p h = let q = some_skip l s in front p _ (from_top r _ (h.1 q.0 q.1))
  from_skip r (frame.Group b next ∷ k) l s p h = let q = some_skip l s in front p _ (from_skip r k (l - 1) next _ (h.1 q.0 q.1))
  from_skip r (frame.Args f ts ∷ k) l s p h = absurd h
  from_skip r (frame.Side b u ∷ k) l s p h = absurd h
  from_skip r (frame.Not c ∷ k) l s p h = absurd h
  from_skip r (frame.Bind q ∷ k) l s p h = absurd h
  from_skip r (frame.Join o a ∷ k) l s p h = absurd h
  from_skip r (frame.Couple c a ∷ k) l s p h = absurd h
  from_skip r (frame.Round ∷ k) l s p h = absurd h

  from_end : (r : Reader) (a : FoFormula) (t : Table) (l : ℕ) (p : List Placed) → AtEnd W r a t l p → GoesOn p
  from_end r a t l p h = from_skip (opened (finished (set r t []) a) []) [] l skip.Behind p h

  from_after : (r : Reader) (k : List Frame) (m : Mode) (a : FoFormula) (t : Table) (l : ℕ) (p : List Placed) → After W r m a k t l p → GoesOn p
  from_after r [] mode.Ended a t l p h = from_end r a t l p h
  from_after r [] mode.Fresh a t l p h = front p [] (from_end r a t l (p ++ []) (h [] a t g.nothing))
  from_after r [] (mode.Chained o) a t l p h = front p [] (from_end r a t l (p ++ []) (h [] a t g.nothing))
  from_after r (frame.Round ∷ k) mode.Ended a t l p h = front p _ (from_after r k (round_mode r.clausal) a t (l - 1) _ h)
  from_after r (frame.Round ∷ k) mode.Fresh a t l p h = front p _ (from_after r k (round_mode r.clausal) a t (l - 1) _ (h [] a t g.nothing))
  from_after r (frame.Round ∷ k) (mode.Chained o) a t l p h = front p _ (from_after r k (round_mode r.clausal) a t (l - 1) _ (h [] a t g.nothing))
  from_after r (frame.Not c ∷ k) mode.Fresh a t l p h = from_after r k mode.Fresh (formula.Not a) t l p h
  from_after r (frame.Bind q ∷ k) mode.Fresh a t l p h = from_after r k mode.Fresh _ _ l p h
  from_after r (frame.Join o b ∷ k) mode.Fresh a t l p h = from_after r k (mode.Chained o) (join o b a) t l p h
  from_after r (frame.Couple c b ∷ k) mode.Fresh a t l p h = from_after r k mode.Ended (couple c b a) t l p h
  from_after r (_ ∷ k) mode.Fresh a t l p h = absurd h
  from_after r (_ ∷ k) (mode.Chained o) a t l p h = absurd h
  from_after r (_ ∷ k) mode.Ended a t l p h = absurd h

  from_atom : (r : Reader) (u : FoTerm) (k : List Frame) (t : Table) (l : ℕ) (p : List Placed) → AfterAtom W r u k t l p → GoesOn p
  from_atom r u k t l p h = front p _ (from_after r k mode.Fresh _ _ l _ (h.1 true refl (at 0 (tok.Name false 0) ∷ []) _ _ g.constant))

  from_term : (r : Reader) (k : List Frame) (u : FoTerm) (t : Table) (l : ℕ) (p : List Placed) → AfterTerm W r u k t l p → GoesOn p
  from_term r (frame.Args f ts ∷ k) u t l p h = front p _ (from_term r k (Fun f (ts ++ u ∷ [])) t (l - 1) _ (h (at 0 (tok.Close false) ∷ []) _ t g.last))
  from_term r (frame.Side b v ∷ k) u t l p h = from_after r k mode.Fresh (equation b v u) t l p h
  from_term r [] u t l p h = from_atom r u [] t l p h
  from_term r (frame.Not c ∷ k) u t l p h = from_atom r u (frame.Not c ∷ k) t l p h
  from_term r (frame.Bind q ∷ k) u t l p h = from_atom r u (frame.Bind q ∷ k) t l p h
  from_term r (frame.Join o a ∷ k) u t l p h = from_atom r u (frame.Join o a ∷ k) t l p h
  from_term r (frame.Couple c a ∷ k) u t l p h = from_atom r u (frame.Couple c a ∷ k) t l p h
  from_term r (frame.Round ∷ k) u t l p h = from_atom r u (frame.Round ∷ k) t l p h
  from_term r (frame.Group b s ∷ k) u t l p h = from_atom r u (frame.Group b s ∷ k) t l p h

  -- ---- in a statement's head

  from_formula : (r : Reader) (p : List Placed) (c : Bool) → r.clausal ≡ c → AtFormula W r p → GoesOn p
  from_formula r p true is h = front p _ (from_end r formula.True (record { symbols = r.symbols; variables = [] }) 1 _ (h (at 0 (tok.Truth true) ∷ []) formula.True (record { symbols = r.symbols; variables = [] }) (subst (λ b. g.IsFormula 1 (g.Formula b) (record { symbols = r.symbols; variables = [] }) (at 0 (tok.Truth true) ∷ []) formula.True (record { symbols = r.symbols; variables = [] })) (sym is) (g.joined (g.truth_word true) g.nothing))))
  from_formula r p false is h = front p _ (from_end r formula.True (record { symbols = r.symbols; variables = [] }) 1 _ (h (at 0 (tok.Truth true) ∷ []) formula.True (record { symbols = r.symbols; variables = [] }) (subst (λ b. g.IsFormula 1 (g.Formula b) (record { symbols = r.symbols; variables = [] }) (at 0 (tok.Truth true) ∷ []) formula.True (record { symbols = r.symbols; variables = [] })) (sym is) (g.joined (g.truth_word true) g.nothing))))

  zero_stands : (had : Bool) → may_stand had 0 ≡ true
  zero_stands true = refl
  zero_stands false = refl

  from_role : (r : Reader) (p : List Placed) → AtRole W r p → GoesOn p
  from_role r p h = front p _ (from_formula (record r { conjecture = is_conjecture 0 }) _ r.clausal refl (h 0 (zero_stands r.had)))

  from_name : (r : Reader) (p : List Placed) → AtName W r p → GoesOn p
  from_name r p h = front p _ (from_role (record r { name = 0 }) _ (h false 0))

  -- ---- each state

  pub goes_on : (r : Reader) (s : Spot) (l : ℕ) (p : List Placed) → Come W r s l p → GoesOn p
  goes_on r spot.Top l p h = from_top r p h.2
  goes_on r spot.Open l p h = front p _ (from_name r _ h.2)
  goes_on r spot.Name l p h = from_name r p h.2
  goes_on r spot.NameEnd l p h = front p _ (from_role r _ h.2)
  goes_on r spot.Role l p h = from_role r p h.2
  goes_on r spot.RoleEnd l p h = front p _ (from_formula r _ r.clausal refl h.2)
  goes_on r (spot.Want k) l p h = front p _ (from_after r r.frames mode.Fresh _ _ l _ (h.part (at 0 (tok.Truth true) ∷ []) _ _ (g.truth_word true)))
  goes_on r spot.WantTerm l p h = front p _ (from_term r r.frames _ _ l _ (h (at 0 (tok.Name false 0) ∷ []) _ _ g.constant))
  goes_on r (spot.Named f) l p h = from_term r r.frames _ _ l p h.alone
  goes_on r (spot.Term u) l p h = from_term r r.frames u _ l p h
  goes_on r (spot.Have m a) l p h = from_after r r.frames m a _ l p h
  goes_on r (spot.Square q) l p h = front p _ (from_after r r.frames mode.Fresh _ _ l _ (h.goes _ _ _ (g.last {x = 0} (g.truth_word true))))
  goes_on r (spot.Variable q) l p h = front p _ (from_after r r.frames mode.Fresh _ _ h.level _ (h.goes _ _ _ (g.last {x = 0} (g.truth_word true))))
  goes_on r (spot.VariableEnd q) l p h = front p _ (from_after r r.frames mode.Fresh _ _ h.level _ (h.last _ _ _ (g.truth_word true)))
  goes_on r spot.Colon l p h = front p _ (from_after r r.frames mode.Fresh _ _ l _ (h.goes _ _ _ (g.truth_word true)))
  goes_on r (spot.Skip s) l p h = from_skip r r.frames l s p h.1
  goes_on r spot.Dot l p h = front p _ (from_top r _ h.2)
