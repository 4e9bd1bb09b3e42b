-- How far a reader has come in its part: what was read, and the states to which every walk comes over it. A way out of a reader is one of the endings.
use Rattle.std.proofs.Common.{◌≡◌, inl, inr, ℕ, ◌+◌, ◌≤◌, ◌<◌, None, List, [], ◌∷◌, ◌++◌, length, refl, sym, ap, ◌∙◌}
use Rattle.first_fault.specs.Levels.{Within}
use Rattle.first_fault.proofs.Fronts.{put-append, within-append}
use Rattle.proof_words.specs.Sharing.{Shares}
use Rattle.proof_syntax.specs.declared.fault.PartFault.{PartFault}
use Rattle.proof_syntax.specs.declared.fault.PartFault.TheVariants as fault
use Rattle.proof_syntax.specs.Tokens.{Sign, Tok, Word, Mark, cut}
use Rattle.proof_syntax.specs.Names.{Names}
use Rattle.proof_syntax.specs.Grammar.{Placed, at, most}
use Rattle.proof_syntax.specs.Machine.{put, goes, run, State, step, accepted, to}
use Rattle.proof_syntax.specs.Parts.{Fails, IsNot, NoWord}
use Rattle.proof_syntax.proofs.Inside as kit
use Rattle.proof_syntax.proofs.Inside.{Refuses, refuses_but}
use Rattle.proof_syntax.proofs.Leads.{Leads, leads_none, leads_both, leads_last}

-- the tokens `p` were read, with `bytes` behind them, and the walks are in the states `s`
pub record Passed (names : Names) (I : Type 0) (st s : I → State) (text bytes : List ℕ) (p : List Placed) : Type 0 where
  pub tokens : cut text ≡ put p (cut bytes)
  pub low : Within most p
  pub leads : (i : I) → Leads names (st i) p (s i)

module _ (names : Names) (I : Type 0) (st : I → State) (text : List ℕ) where
  pub nothing : Passed names I st st text text []
  nothing = record { tokens = refl; low = tt; leads = λ i. leads_none names (st i) }

  -- and then these tokens
  pub more : (s t : I → State) (bytes rest : List ℕ) (p q : List Placed) → Passed names I st s text bytes p →
      cut bytes ≡ put q (cut rest) → Within most q → ((i : I) → Leads names (s i) q (t i)) → Passed names I st t text rest (p ++ q)
  more s t bytes rest p q g eq low leads = record {
    tokens = g.tokens ∙ ap (λ xs. put p xs) eq ∙ sym (put-append p q (cut rest));
    low = within-append most p q g.low low;
    leads = λ i. leads_both names (st i) (s i) (t i) p q (g.leads i) (leads i);
  }

  -- and then a token
  pub one : (s t : I → State) (bytes rest : List ℕ) (p : List Placed) (x : Tok) (l : ℕ) (m : I → ℕ) → Passed names I st s text bytes p →
      cut bytes ≡ x ∷ cut rest → l ≤ most → ((i : I) → step names (s i) x ≡ to (m i) (t i)) → ((i : I) → m i ≡ l) →
      Passed names I st t text rest (p ++ at l x ∷ [])
  one s t bytes rest p x l m g eq room steps levels =
      more s t bytes rest p (at l x ∷ []) g eq (room, tt) (λ i. leads_last names (s i) (t i) x (m i) l (steps i) (levels i))

module _ (names : Names) (B : List Placed → Type 0) (I : Type 0) (st s : I → State) (text bytes : List ℕ) (p : List Placed)
    (g : Passed names I st s text bytes p) where
  -- what comes next isn't taken
  pub stops : B p → ((i : I) → Refuses names (s i) (cut bytes)) → Fails names B I st text (fault.Stops (length bytes))
  stops begins refused = kit.here names B I st s p g.leads text bytes g.tokens g.low begins refused

  -- a sign is wanted alone, and isn't there
  pub stops_but : (m : Sign) → B p → ((i : I) → accepted (s i) ≡ None) → ((i : I) (x : Tok) → (x ≡ Mark m → ⊥) → step names (s i) x ≡ None) →
      IsNot (Mark m) (cut bytes) → Fails names B I st text (fault.Stops (length bytes))
  stops_but m begins end others none = stops begins (λ i. refuses_but names (s i) m (end i) (others i) (cut bytes) none)

  -- a word is wanted alone, and isn't there
  pub stops_no_word : B p → ((i : I) → accepted (s i) ≡ None) → ((i : I) (m : Sign) → step names (s i) (Mark m) ≡ None) →
      NoWord (cut bytes) → Fails names B I st text (fault.Stops (length bytes))
  stops_no_word begins end others none = stops begins (λ i. refused i (cut bytes) none)
    where
      refused : (i : I) (ts : List Tok) → NoWord ts → Refuses names (s i) ts
      refused i [] n = end i
      refused i (Mark m ∷ ts) n = others i m
      refused i (Word w ∷ ts) n = absurd (n w ts refl)

  -- a word that is none of those that are meant
  pub stops_in : (Meant : List ℕ → Type 0) (l : ℕ) (w : List ℕ) (rest : List Tok) (n left : ℕ) → B p → cut bytes ≡ Word w ∷ rest →
      left + n ≡ length bytes → Shares Meant w n → ((v : List ℕ) → Meant v → B (p ++ at l (Word v) ∷ [])) →
      ((i : I) (v : List ℕ) → (Meant v → ⊥) → step names (s i) (Word v) ≡ None) → Fails names B I st text (fault.Stops left)
  stops_in Meant l w rest n left begins eq count shares meant others =
      kit.here_in names B I st s p g.leads text bytes g.tokens g.low w rest n left eq count begins shares.room
      (elim shares.some [ inl none ↦ inl none | inr v ↦ inr (v.0, (l, meant v.0 v.1), v.2) ])
      (λ v same i. others i v (λ m. shares.most v m same))

  -- a token whose level is above the limit
  pub goes_beyond : (x : Tok) (l : ℕ) (rest : List Tok) → cut bytes ≡ x ∷ rest → B (p ++ at l x ∷ []) → most < l →
      Fails names B I st text (fault.GoesBeyond (length bytes))
  goes_beyond x l rest eq begins above = kit.here_beyond names B I st s p g.leads text bytes g.tokens g.low x l rest eq begins above

  -- a part is wanted, and fails
  pub fails_in : (B' : List Placed → Type 0) (I' : Type 0) (st' : I' → State) → ((q : List Placed) → B' q → B (p ++ q)) →
      ((i : I) → (j : I') × (s i ≡ st' j)) → (e : PartFault) → Fails names B' I' st' bytes e → Fails names B I st text e
  fails_in B' I' st' lift wants e h =
      kit.inside names B B' I I' st st' p lift
      (λ i. ((wants i).0, λ rest. g.leads i rest ∙ ap (λ t. goes p (run names t rest)) (wants i).1)) text bytes g.tokens g.low e h
