-- Problems that are derivable are walked through.
use Rattle.std.proofs.Common.{◌≡◌, ℕ, ◌+◌, ◌||◌, Bool, true, false, List, [], ◌∷◌, ◌++◌, Some, None, refl, sym, ap, subst, ◌∙◌, arith, if◌then◌else◌, append_assoc, append-nil}
use Rattle.first_fault.proofs.Fronts.{put-append, goes-append}
use Rattle.fo_terms.specs.declared.formula.FoFormula.{FoFormula}
use Rattle.tptp_syntax.specs.declared.claim.Claimed.{Claimed}
use Rattle.tptp_syntax.specs.declared.tokens.Tok.{Tok}
use Rattle.tptp_syntax.specs.declared.tokens.Tok.TheVariants as tok
use Rattle.tptp_syntax.specs.declared.sorts.Mode.TheVariants as mode
use Rattle.tptp_syntax.specs.declared.sorts.Skip.{Skip}
use Rattle.tptp_syntax.specs.declared.sorts.Skip.TheVariants as skip
use Rattle.tptp_syntax.specs.declared.frames.Frame.{Frame}
use Rattle.tptp_syntax.specs.declared.frames.Frame.TheVariants as frame
use Rattle.tptp_syntax.specs.declared.reader.Spot.TheVariants as spot
use Rattle.tptp_syntax.specs.declared.reader.Reader.{Reader}
use Rattle.tptp_syntax.specs.Grammar as g
use Rattle.tptp_syntax.specs.Grammar.{Placed, at, Table, first_kind, IsSkipped, may_end, in_part, gone_on, may_divide, is_filler, head_word, is_conjecture, may_stand, stated, Listed, head, IsList}
use Rattle.tptp_syntax.specs.inner.Machine.{put, goes, Done, run, step, counted, to, finished, outset}
use Rattle.tptp_syntax.proofs.Runs.{full, set, Ends, Leads, on, last_on, both}
use Rattle.tptp_syntax.proofs.CompleteTerms.{back}
use Rattle.tptp_syntax.proofs.CompleteFormulas.{formula_runs}

-- ---- further parts

filler_step : (l : ℕ) (r : Reader) (s : Skip) (x : Tok) → is_filler s x ≡ true → step (full l r (spot.Skip s)) x ≡ Some (record { level = 0; state = full l r (spot.Skip (gone_on s)) })
filler_step l r s (tok.Open b) h = cc
filler_step l r s (tok.Close b) h = cc
filler_step l r s tok.Bad h = cc
filler_step l r skip.Group tok.Comma h = refl
filler_step l r skip.Behind tok.Comma h = cc
filler_step l r skip.Begun tok.Comma h = cc
filler_step l r skip.Within tok.Comma h = cc
filler_step l r skip.Behind x h = cc
filler_step l r skip.Begun x h = refl
filler_step l r skip.Within x h = refl
filler_step l r skip.Group x h = refl

comma_step : (l : ℕ) (r : Reader) (s : Skip) → may_divide s ≡ true → step (full l r (spot.Skip s)) tok.Comma ≡ Some (record { level = 0; state = full l r (spot.Skip skip.Begun) })
comma_step l r skip.Behind h = refl
comma_step l r skip.Begun h = cc
comma_step l r skip.Within h = refl
comma_step l r skip.Group h = cc

-- the reader with these parts open
abbrev pub opened : Reader → List Frame → Reader
opened r k = record r { frames = k }

open_step : (l : ℕ) (r : Reader) (k : List Frame) (s : Skip) (b : Bool) → in_part s ≡ true →
    step (full l (opened r k) (spot.Skip s)) (tok.Open b) ≡ Some (record { level = l + 1; state = full (l + 1) (opened r (frame.Group b (gone_on s) ∷ k)) (spot.Skip skip.Group) })
open_step l r k s b h = ap (λ y. counted l (tok.Open b) (if y then to (opened r (frame.Group b (gone_on s) ∷ k)) (spot.Skip skip.Group) else None)) h

shut_step : (l : ℕ) (r : Reader) (k : List Frame) (s : Skip) (b : Bool) (next : Skip) →
    step (full (l + 1) (opened r (frame.Group b next ∷ k)) (spot.Skip s)) (tok.Close b) ≡ Some (record { level = 0; state = full l (opened r k) (spot.Skip next) })
shut_step l r k s true next = ap (λ n. Some (record { level = 0; state = full n (opened r k) (spot.Skip next) })) (back l)
shut_step l r k s false next = ap (λ n. Some (record { level = 0; state = full n (opened r k) (spot.Skip next) })) (back l)

abbrev pub SkipRuns : ℕ → Skip → List Placed → Type 0
SkipRuns l s p = (r : Reader) (k : List Frame) → (e : Skip) × (may_end e ≡ true) × ((rest : List Tok) → Leads (full l (opened r k) (spot.Skip s)) p (full l (opened r k) (spot.Skip e)) rest)

pub skip_runs : {l : ℕ} {s : Skip} {p : List Placed} → IsSkipped l s p → SkipRuns l s p
skip_runs (g.end {s = s} h) = λ r k. (s, h, λ rest. refl)
skip_runs {l = l} (g.token {s = s} {x = x} {p = p} h d) = λ r k.
    let more = skip_runs d r k in
    (more.0, more.1, λ rest. on (full l (opened r k) (spot.Skip s)) (full l (opened r k) (spot.Skip (gone_on s))) (full l (opened r k) (spot.Skip more.0)) 0 x p rest (filler_step l (opened r k) s x h) (more.2 rest))
skip_runs {l = l} (g.comma {s = s} {p = p} h d) = λ r k.
    let more = skip_runs d r k in
    (more.0, more.1, λ rest. on (full l (opened r k) (spot.Skip s)) (full l (opened r k) (spot.Skip skip.Begun)) (full l (opened r k) (spot.Skip more.0)) 0 tok.Comma p rest (comma_step l (opened r k) s h) (more.2 rest))
skip_runs {l = l} (g.group {s = s} {square = b} {p = p} {q = q} h d e) = λ r k.
    let under = frame.Group b (gone_on s) ∷ k in
    let inside = skip_runs d r under in
    let more = skip_runs e r k in
    let begun = full (l + 1) (opened r under) (spot.Skip skip.Group) in
    let ended = full (l + 1) (opened r under) (spot.Skip inside.0) in
    let next = full l (opened r k) (spot.Skip (gone_on s)) in
    let done = full l (opened r k) (spot.Skip more.0) in (
      more.0,
      more.1,
      λ rest. on (full l (opened r k) (spot.Skip s)) begun done (l + 1) (tok.Open b) (p ++ at 0 (tok.Close b) ∷ q) rest (open_step l r k s b h)
          (both begun ended done p (at 0 (tok.Close b) ∷ q) rest (inside.2 (put (at 0 (tok.Close b) ∷ q) rest)) (on ended next done 0 (tok.Close b) q rest (shut_step l r k inside.0 b (gone_on s)) (more.2 rest))),
    )

-- ---- behind a formula stands a comma or the statement's bracket

abbrev pub EndsFormula : List Tok → Type 0
EndsFormula (tok.Comma ∷ xs) = Unit {0}
EndsFormula (tok.Close false ∷ xs) = Unit {0}
EndsFormula _ = ⊥

pub ends_formula : (xs : List Tok) → EndsFormula xs → Ends 3 xs
ends_formula [] h = tt
ends_formula (tok.Comma ∷ xs) h = omega arith
ends_formula (tok.Close false ∷ xs) h = omega arith
ends_formula (tok.Close true ∷ xs) h = absurd h
ends_formula (_ ∷ xs) h = absurd h

no_filler : (x : Tok) → is_filler skip.Behind x ≡ true → ⊥
no_filler (tok.Open b) h = cc
no_filler (tok.Close b) h = cc
no_filler tok.Bad h = cc
no_filler tok.Comma h = cc
no_filler x h = cc

abbrev BehindFormula : Skip → List Placed → Type 0
BehindFormula skip.Behind p = (rest : List Tok) → EndsFormula (put p (tok.Close false ∷ rest))
BehindFormula _ p = Unit {0}

behind_filler : (s : Skip) (x : Tok) (p : List Placed) → is_filler s x ≡ true → BehindFormula s (at 0 x ∷ p)
behind_filler skip.Behind x p h = absurd (no_filler x h)
behind_filler skip.Begun x p h = tt
behind_filler skip.Within x p h = tt
behind_filler skip.Group x p h = tt

behind_comma : (s : Skip) (p : List Placed) → BehindFormula s (at 0 tok.Comma ∷ p)
behind_comma skip.Behind p = λ rest. tt
behind_comma skip.Begun p = tt
behind_comma skip.Within p = tt
behind_comma skip.Group p = tt

behind_end : (s : Skip) → BehindFormula s []
behind_end skip.Behind = λ rest. tt
behind_end skip.Begun = tt
behind_end skip.Within = tt
behind_end skip.Group = tt

behind_group : (s : Skip) (p : List Placed) → in_part s ≡ true → BehindFormula s p
behind_group skip.Behind p h = cc
behind_group skip.Begun p h = tt
behind_group skip.Within p h = tt
behind_group skip.Group p h = tt

pub behind_formula : {l : ℕ} {s : Skip} {p : List Placed} → IsSkipped l s p → BehindFormula s p
behind_formula (g.end {s = s} h) = behind_end s
behind_formula (g.token {s = s} {x = x} {p = p} h d) = behind_filler s x p h
behind_formula (g.comma {s = s} {p = p} h d) = behind_comma s p
behind_formula (g.group {s = s} h d e) = behind_group s _ h

-- there the statement is read, and further parts may come
divides : (l : ℕ) (r : Reader) (t : Table) (a : FoFormula) (xs : List Tok) → EndsFormula xs →
    run (full l (set r t []) (spot.Have mode.Ended a)) xs ≡ run (full l (opened (finished (set r t []) a) []) (spot.Skip skip.Behind)) xs
divides l r t a (tok.Comma ∷ xs) h = refl
divides l r t a (tok.Close false ∷ xs) h = refl
divides l r t a (tok.Close true ∷ xs) h = absurd h
divides l r t a [] h = absurd h
divides l r t a (_ ∷ xs) h = absurd h

end_step : (l : ℕ) (r : Reader) (s : Skip) → may_end s ≡ true → step (full (l + 1) (opened r []) (spot.Skip s)) (tok.Close false) ≡ Some (record { level = 0; state = full l (opened r []) spot.Dot })
end_step l r s h = ap (λ b. counted (l + 1) (tok.Close false) (if b then to (opened r []) spot.Dot else None)) h ∙ ap (λ n. Some (record { level = 0; state = full n (opened r []) spot.Dot })) (back l)

-- ---- statements

abbrev pub between : List Claimed → Bool → Bool → ℕ → Bool → List ℕ → Reader
between done had clausal name conjecture ns = record { done = done; had = had; clausal = clausal; name = name; conjecture = conjecture; symbols = ns; scope = []; frames = [] }

word_step : (done : List Claimed) (had clausal conjecture : Bool) (name : ℕ) (ns : List ℕ) (c : Bool) →
    step (full 0 (between done had clausal name conjecture ns) spot.Top) (tok.Name false (head_word c)) ≡ Some (record { level = 0; state = full 0 (between done had c name conjecture ns) spot.Open })
word_step done had clausal conjecture name ns true = refl
word_step done had clausal conjecture name ns false = refl

role_step : (r : Reader) (n : ℕ) → may_stand r.had n ≡ true → step (full 1 r spot.Role) (tok.Name false n) ≡ Some (record { level = 0; state = full 1 (record r { conjecture = is_conjecture n }) spot.RoleEnd })
role_step r n h = ap (λ b. counted 1 (tok.Name false n) (if b then to (record r { conjecture = is_conjecture n }) spot.RoleEnd else None)) h

abbrev pub ListRuns : Bool → List ℕ → List Placed → Listed → Type 0
ListRuns had ns p v = (done : List Claimed) (clausal conjecture : Bool) (name : ℕ) →
    run (full 0 (between done had clausal name conjecture ns) spot.Top) (put p []) ≡ goes p (Done (Some (record { symbols = v.symbols; statements = done ++ v.statements })))

to_right : (h p q r : List Placed) → h ++ p ++ q ++ r ≡ h ++ (p ++ (q ++ r))
to_right h p q r = simp append_assoc

-- the tokens of a statement
pub statement_runs : (done : List Claimed) (had clausal conjecture : Bool) (name : ℕ) (ns : List ℕ) (c quoted : Bool) (called role : ℕ) (t : Table) (p q r : List Placed) (a : FoFormula) (rest : List Tok) →
    may_stand had role ≡ true → g.IsFormula 1 (g.Formula c) (record { symbols = ns; variables = [] }) p a t → IsSkipped 1 skip.Behind q →
    Leads (full 0 (between done had clausal name conjecture ns) spot.Top) (head c quoted called role ++ p ++ q ++ at 0 (tok.Close false) ∷ at 0 tok.Dot ∷ [])
    (full 0 (between (done ++ record { name = called; conjecture = is_conjecture role; formula = stated c t a } ∷ []) (had || is_conjecture role) c called (is_conjecture role) t.symbols) spot.Top) rest
statement_runs done had clausal conjecture name ns c quoted called role t p q r a rest may d e =
    let start : Table = record { symbols = ns; variables = [] } in
    let named = between done had c called conjecture ns in
    let ready = between done had c called (is_conjecture role) ns in
    let last_ = between (done ++ record { name = called; conjecture = is_conjecture role; formula = stated c t a } ∷ []) (had || is_conjecture role) c called (is_conjecture role) t.symbols in
    let top = full 0 last_ spot.Top in
    let dot = full 0 last_ spot.Dot in
    let parts = skip_runs e last_ [] in
    let begun = full 1 last_ (spot.Skip skip.Behind) in
    let ended = full 1 last_ (spot.Skip parts.0) in
    let whole = full 1 (set ready t []) (spot.Have mode.Ended a) in
    let wanted = full 1 ready (spot.Want (first_kind c)) in
    let tail = at 0 (tok.Close false) ∷ at 0 tok.Dot ∷ [] in
    let finish : Leads ended tail top rest = on ended dot top 0 (tok.Close false) (at 0 tok.Dot ∷ []) rest (end_step 0 last_ parts.0 parts.1) (last_on dot top 0 tok.Dot rest refl) in
    let skipped : Leads begun (q ++ tail) top rest = both begun ended top q tail rest (parts.2 (put tail rest)) finish in
    let ends : EndsFormula (put (q ++ tail) rest) = subst (λ xs. EndsFormula xs) (sym (put-append q tail rest)) (behind_formula e (tok.Dot ∷ rest)) in
    let behind : Leads whole (q ++ tail) top rest = divides 1 ready t a (put (q ++ tail) rest) ends ∙ skipped in
    let formula_ : Leads wanted p whole (put (q ++ tail) rest) = formula_runs d ready [] (put (q ++ tail) rest) refl refl (ends_formula (put (q ++ tail) rest) ends) in
    let opening = full 0 (between done had c name conjecture ns) spot.Open in
    let naming = full 1 (between done had c name conjecture ns) spot.Name in
    let one_ = at 0 tok.Comma ∷ (p ++ (q ++ tail)) in
    let two = at 0 (tok.Name false role) ∷ one_ in
    let three = at 0 tok.Comma ∷ two in
    let four = at 0 (tok.Name quoted called) ∷ three in
    let body : Leads wanted (p ++ (q ++ tail)) top rest = both wanted whole top p (q ++ tail) rest formula_ behind in
    let from = full 0 (between done had clausal name conjecture ns) spot.Top in
    subst (λ ps. Leads from ps top rest) (sym (to_right (head c quoted called role) p q tail))
    (on from opening top 0 (tok.Name false (head_word c)) (at 1 (tok.Open false) ∷ four) rest (word_step done had clausal conjecture name ns c)
    (on opening naming top 1 (tok.Open false) four rest refl
    (on naming (full 1 named spot.NameEnd) top 0 (tok.Name quoted called) three rest refl
    (on (full 1 named spot.NameEnd) (full 1 named spot.Role) top 0 tok.Comma two rest refl
    (on (full 1 named spot.Role) (full 1 ready spot.RoleEnd) top 0 (tok.Name false role) one_ rest (role_step named role may)
    (on (full 1 ready spot.RoleEnd) wanted top 0 tok.Comma (p ++ (q ++ tail)) rest refl body))))))

regroup : (h p q r : List Placed) (x y : Placed) → h ++ p ++ q ++ x ∷ y ∷ r ≡ (h ++ p ++ q ++ x ∷ y ∷ []) ++ r
regroup h p q r x y = simp append_assoc

pub list_runs : {had : Bool} {ns : List ℕ} {p : List Placed} {v : Listed} → IsList had ns p v → ListRuns had ns p v
list_runs {ns = ns} g.end = λ done clausal conjecture name. ap (λ ss. Done (Some (record { symbols = ns; statements = ss }))) (sym (append-nil done))
list_runs {had = had} {ns = ns} (g.statement {clausal = c} {quoted = quoted} {name = called} {role = role} {t = t} {p = p} {q = q} {r = r} {a = a} {v = v} may d e f) = λ done clausal conjecture name.
    let claim : Claimed = record { name = called; conjecture = is_conjecture role; formula = stated c t a } in
    let one = head c quoted called role ++ p ++ q ++ at 0 (tok.Close false) ∷ at 0 tok.Dot ∷ [] in
    let same = regroup (head c quoted called role) p q r (at 0 (tok.Close false)) (at 0 tok.Dot) in
    let first = statement_runs done had clausal conjecture name ns c quoted called role t p q r a (put r []) may d e in
    let more = list_runs f (done ++ claim ∷ []) c (is_conjecture role) called in
    let from = full 0 (between done had clausal name conjecture ns) spot.Top in
    ap (λ ps. run from (put ps [])) same ∙ ap (λ xs. run from xs) (put-append one r []) ∙ first ∙ ap (λ z. goes one z) more
    ∙ ap (λ ss. goes one (goes r (Done (Some (record { symbols = v.symbols; statements = ss }))))) (append_assoc done (claim ∷ []) v.statements)
    ∙ sym (goes-append one r (Done (Some (record { symbols = v.symbols; statements = done ++ claim ∷ v.statements })))) ∙ ap (λ ps. goes ps (Done (Some (record { symbols = v.symbols; statements = done ++ claim ∷ v.statements })))) (sym same)

-- what is derivable is walked through
pub complete : (p : List Placed) (v : Listed) → g.IsProblemText p v → run outset (put p []) ≡ goes p (Done (Some v))
complete p v d = list_runs d [] false false 0
