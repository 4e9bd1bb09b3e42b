-- The words of literals match just what the literals can be made into.
use Rattle.std.proofs.Common.{◌≡◌, ℕ, List, [], ◌∷◌, ◌++◌, length, map, refl, sym, ap, subst, ◌∙◌}
use Rattle.std.proofs.lemmas.List.{append_assoc, map-append, length-map}
use Rattle.fo_terms.specs.declared.term.FoTerm.{FoTerm}
use Rattle.fo_terms.specs.Substitution.{var, fun, put}
use Rattle.fo_terms.proofs.Induction.{Each, by_cases}
use Rattle.fo_terms.proofs.Heads.{fun_same, fun_no_var}
use Rattle.fo_terms.proofs.Substitution.{put_var, put_fun}
use Rattle.fo_cells.specs.Cells.{joined, cells_of}
use Rattle.fo_cells.proofs.Terms.{cells_var, cells_fun}
use Rattle.unit_tree.specs.declared.token.Token.{Token}
use Rattle.unit_tree.specs.declared.token.Token.TheVariants.{Head, Variable, Symbol, End}
use Rattle.unit_tree.specs.Tree.{token_of}
use Rattle.unit_tree.specs.inner.Following.{Matches}

abbrev pub tokens : FoTerm → List Token
tokens t = map token_of (cells_of t)

abbrev pub all_tokens : List FoTerm → List Token
all_tokens ts = map token_of (joined (map cells_of ts))

tokens_var : (x : ℕ) → tokens (var x) ≡ Variable x ∷ []
tokens_var x = ap (map token_of) (cells_var x)

tokens_fun : (f : ℕ) (args : List FoTerm) → tokens (fun f args) ≡ Symbol (length args) f ∷ all_tokens args
tokens_fun f args = ap (map token_of) (cells_fun f args) ∙ ap (λ n. Symbol n f ∷ all_tokens args) (length-map args cells_of)

first_behind : (p : FoTerm) (ps : List FoTerm) (word : List Token) → all_tokens (p ∷ ps) ++ word ≡ tokens p ++ (all_tokens ps ++ word)
first_behind p ps word =
    ap (λ l. l ++ word) (map-append token_of (cells_of p) (joined (map cells_of ps))) ∙ append_assoc (tokens p) (all_tokens ps) word

-- ---- a term's word matches the terms that it can be made into

module _ (v : ℕ → FoTerm) where
  abbrev Fits : FoTerm → Type 0
  Fits p = (t : FoTerm) (word : List Token) (ts : List FoTerm) → put v p ≡ t → Matches v word ts → Matches v (tokens p ++ word) (t ∷ ts)

  fits_each : (ps : List FoTerm) → Each Fits ps → (word : List Token) (ts : List FoTerm) → Matches v word ts → Matches v (all_tokens ps ++ word) (map (put v) ps ++ ts)
  fits_each [] each word ts h = h
  fits_each (p ∷ ps) each word ts h =
      subst (λ w. Matches v w (put v p ∷ (map (put v) ps ++ ts))) (sym (first_behind p ps word))
      (each.0 (put v p) (all_tokens ps ++ word) (map (put v) ps ++ ts) refl (fits_each ps each.1 word ts h))

  pub fits : (p t : FoTerm) (word : List Token) (ts : List FoTerm) → put v p ≡ t → Matches v word ts → Matches v (tokens p ++ word) (t ∷ ts)
  fits = by_cases Fits
      (λ x t word ts is h. subst (λ w. Matches v (w ++ word) (t ∷ ts)) (sym (tokens_var x)) (sym (put_var v x) ∙ is, h))
      (λ f args each t word ts is h. subst (λ w. Matches v (w ++ word) (t ∷ ts)) (sym (tokens_fun f args))
      (map (put v) args, sym is ∙ put_fun v f args, length-map args (put v), fits_each args each word ts h))

  -- ---- and what matches is a term's word

  abbrev pub Parsed : List Token → FoTerm → List FoTerm → Type 0
  Parsed word t ts = (p : FoTerm) × (rest : List Token) × (word ≡ tokens p ++ rest) × (put v p ≡ t) × Matches v rest ts

  abbrev Parses : FoTerm → Type 0
  Parses t = (word : List Token) (ts : List FoTerm) → Matches v word (t ∷ ts) → Parsed word t ts

  parse_each : (us : List FoTerm) → Each Parses us → (word : List Token) (ts : List FoTerm) → Matches v word (us ++ ts)
      → (ps : List FoTerm) × (rest : List Token) × (word ≡ all_tokens ps ++ rest) × (map (put v) ps ≡ us) × Matches v rest ts
  parse_each [] each word ts h = ([], word, refl, refl, h)
  parse_each (u ∷ us) each word ts h =
      let first : Parsed word u (us ++ ts) = each.0 word (us ++ ts) h in
      let more : (ps : List FoTerm) × (rest : List Token) × (first.1 ≡ all_tokens ps ++ rest) × (map (put v) ps ≡ us) × Matches v rest ts = parse_each us each.1 first.1 ts first.4 in
      (first.0 ∷ more.0, more.1, first.2 ∙ ap (λ w. tokens first.0 ++ w) more.2 ∙ sym (first_behind first.0 more.0 more.1), (λ i. first.3 i ∷ more.3 i), more.4)

  parse_word : (t : FoTerm) → ((f : ℕ) (args : List FoTerm) → t ≡ fun f args → Each Parses args) → (word : List Token) (ts : List FoTerm) → Matches v word (t ∷ ts) → Parsed word t ts
  parse_word t inner [] ts h = absurd h
  parse_word t inner (Head positive equation ∷ word) ts h = absurd h
  parse_word t inner (End ∷ word) ts h = let wrong : t ∷ ts ≡ [] = h.1 in cc
  parse_word t inner (Variable x ∷ word) ts h = (var x, word, ap (λ l. l ++ word) (sym (tokens_var x)), put_var v x ∙ h.0, h.1)
  parse_word t inner (Symbol n f ∷ word) ts h =
      let args : List FoTerm = h.0 in
      let more : (ps : List FoTerm) × (rest : List Token) × (word ≡ all_tokens ps ++ rest) × (map (put v) ps ≡ args) × Matches v rest ts = parse_each args (inner f args h.1) word ts h.3 in
      let count : n ≡ length more.0 = sym h.2 ∙ ap length (sym more.3) ∙ length-map more.0 (put v) in
      (fun f more.0, more.1, (λ i. Symbol (count i) f ∷ more.2 i) ∙ ap (λ l. l ++ more.1) (sym (tokens_fun f more.0)), put_fun v f more.0 ∙ ap (fun f) more.3 ∙ sym h.1, more.4)

  pub parse : (t : FoTerm) (word : List Token) (ts : List FoTerm) → Matches v word (t ∷ ts) → Parsed word t ts
  parse = by_cases Parses
      (λ y. parse_word (var y) (λ f args is. absurd (fun_no_var f y args (sym is))))
      (λ g bs each. parse_word (fun g bs) (λ f args is. subst (Each Parses) (fun_same g f bs args is).1 each))

  -- nothing is left: the end stands there
  pub ends : (word : List Token) → Matches v word [] → word ≡ End ∷ []
  ends [] h = absurd h
  ends (Head positive equation ∷ word) h = absurd h
  ends (End ∷ word) h = ap (λ w. End ∷ w) h.0
  ends (Variable x ∷ word) h = absurd h
  ends (Symbol n f ∷ word) h = absurd h
