-- What is declared are names: words of the text that aren't reserved.
use Rattle.std.proofs.Common.{◌≡◌, ℕ, ◌+◌, ◌∙◌, Bool, true, false, ◌&&◌, ◌||◌, ◌==◌, if◌then◌else◌, nat_le, IsTrue, List, [], ◌∷◌, ◌++◌, length, take, drop, ap, sym, subst, refl, append_assoc}
use Rattle.std.specs.Prelude.{not, codes, slice_index}
use Rattle.std.specs.List.{list_all, list_any}
use Rattle.std.specs.Str.{bytes_eq}
use Rattle.std.specs.Char.{is_ascii_alphabetic}
use Rattle.std.proofs.Math.Seq.{drop-append_seam, take-append_seam}
use Rattle.std.proofs.lemmas.Bool.{le-leb}
use Rattle.std.proofs.lemmas.List.{length-append}
use Rattle.std.proofs.lemmas.List.Folds.{list_all-append, list_all-map}
use Rattle.hol_terms.proofs.Both.{both_true, and_true}
use Rattle.text_kit.specs.declared.cut.Token.{Token}
use Rattle.text_kit.specs.declared.cut.Kind.{Kind}
use Rattle.text_kit.specs.declared.cut.Kind.TheVariants as kind
use Rattle.text_kit.specs.Tokens.{Cuts, Stands, IsMark, is_word_byte}
use Rattle.text_kit.specs.Tokens as cut
use Rattle.first_fault.specs.Levels.{put}
use Rattle.theory_syntax.specs.declared.tokens.Word.{Word}
use Rattle.theory_syntax.specs.declared.tokens.Tok.{Tok}
use Rattle.theory_syntax.specs.declared.tokens.Tok.TheVariants as tok
use Rattle.theory_syntax.specs.declared.tree.Hyp.{Hyp}
use Rattle.theory_syntax.specs.declared.tree.Item.{Item}
use Rattle.theory_syntax.specs.declared.tree.Item.TheVariants as item
use Rattle.theory_syntax.specs.Grammar.{Placed, Declares, AreHyps, IsTheory}
use Rattle.theory_syntax.specs.Grammar as grammar
use Rattle.theory_terms.specs.Words.{word_at}
use Rattle.theory_reader.specs.Names.{reserved, is_word, is_name}
use Rattle.theory_reader.specs.Toks.{word_tok, mark_tok, span, tok_as, tok_of, toks_of}
use Rattle.theory_reader.specs.Reading.{ReadsItems}
use Rattle.theory_reader.proofs.Passes.{head_passes, tail_passes}

module _ (text : List ℕ) where
  abbrev pub named : Word → Bool
  named w = is_name (word_at text w)

  -- a name, where it is a word that isn't reserved
  abbrev tok_named : Tok → Bool
  tok_named (tok.Word w) = named w
  tok_named _ = true

  abbrev pub hyp_named : Hyp → Bool
  hyp_named h = named h.name

  abbrev pub item_named : Item → Bool
  item_named (item.Type w) = named w
  item_named (item.Const w a) = named w
  item_named (item.Fact w t) = named w
  item_named (item.Goal w t hs) = named w && list_all hyp_named hs

  -- ---- derivations

  abbrev placed_named : List Placed → Bool
  placed_named ps = list_all (λ p. tok_named p.tok) ps

  parted : (p q : List Placed) → IsTrue (placed_named (p ++ q)) → IsTrue (placed_named p) × IsTrue (placed_named q)
  parted p q h = both_true (placed_named p) (placed_named q) (sym (list_all-append (λ p. tok_named p.tok) p q) ∙ h)

  -- the word of a declaration, and what stands behind its third token
  heads : (k z : Tok) (x : Word) (ps : List Placed) → IsTrue (placed_named (grammar.at 0 k ∷ grammar.at 0 (tok.Word x) ∷ grammar.at 0 z ∷ ps)) →
      IsTrue (named x) × IsTrue (placed_named ps)
  heads k z x ps h =
      let one = tail_passes (λ p. tok_named p.tok) (grammar.at 0 k) (grammar.at 0 (tok.Word x) ∷ grammar.at 0 z ∷ ps) h in
      let two = tail_passes (λ p. tok_named p.tok) (grammar.at 0 (tok.Word x)) (grammar.at 0 z ∷ ps) one in
      (head_passes (λ p. tok_named p.tok) (grammar.at 0 (tok.Word x)) (grammar.at 0 z ∷ ps) one, tail_passes (λ p. tok_named p.tok) (grammar.at 0 z) ps two)

  hyps_are_named : (p : List Placed) (hs : List Hyp) → AreHyps p hs → IsTrue (placed_named p) → IsTrue (list_all hyp_named hs)
  hyps_are_named _ _ grammar.no_hyp h = refl
  hyps_are_named _ _ (grammar.hyp {x = x} {p = p} {q = q} {t = t} {hs = hs} d ds) h =
      let parts = heads tok.Assume tok.Colon x (p ++ q) h in
      and_true (named x) (list_all hyp_named hs) parts.0 (hyps_are_named q hs ds (parted p q parts.1).1)

  item_is_named : (p : List Placed) (d : Item) → Declares p d → IsTrue (placed_named p) → IsTrue (item_named d)
  item_is_named _ _ (grammar.a_type {x = x}) h = (heads tok.Type tok.Semi x [] h).0
  item_is_named _ _ (grammar.a_const {x = x} {p = p} a) h = (heads tok.Const tok.Colon x (p ++ grammar.at 0 tok.Semi ∷ []) h).0
  item_is_named _ _ (grammar.a_fact {x = x} {p = p} a) h = (heads tok.Fact tok.Colon x (p ++ grammar.at 0 tok.Semi ∷ []) h).0
  item_is_named _ _ (grammar.a_goal {x = x} {p = p} {q = q} {t = t} {hs = hs} a ds) h =
      let parts = heads tok.Goal tok.Colon x (p ++ (q ++ grammar.at 0 tok.Semi ∷ [])) h in
      let rest = (parted p (q ++ grammar.at 0 tok.Semi ∷ []) parts.1).1 in
      and_true (named x) (list_all hyp_named hs) parts.0 (hyps_are_named q hs ds (parted q (grammar.at 0 tok.Semi ∷ []) rest).0)

  items_are_named : (p : List Placed) (ds : List Item) → IsTheory p ds → IsTrue (placed_named p) → IsTrue (list_all item_named ds)
  items_are_named _ _ grammar.empty h = refl
  items_are_named _ _ (grammar.decl {p = p} {q = q} {d = d} {ds = ds} a rest) h =
      let both = parted p q h in
      and_true (item_named d) (list_all item_named ds) (item_is_named p d a both.0) (items_are_named q ds rest both.1)

  -- ---- tokens

  record Named (t : Tok) : Type 0 where
    holds : IsTrue (tok_named t)

  plain : {t : Tok} → tok_named t ≡ true → Named t
  plain h = record { holds = h }

  either : (b : Bool) (x y : Tok) → Named x → (b ≡ false → Named y) → Named (if b then x else y)
  either true x y h k = h
  either false x y h k = k refl

  not_reserved : (a b c d e f g h : Bool) → a ≡ false → b ≡ false → c ≡ false → d ≡ false → e ≡ false → f ≡ false → g ≡ false → h ≡ false →
      not (a || (b || (c || (d || (e || (f || (g || (h || false)))))))) ≡ true
  not_reserved a b c d e f g h p q r s t u v w = rw (p, q, r, s, t, u, v, w) refl

  name_from : (bytes : List ℕ) → IsTrue (is_word bytes) → not (list_any (bytes_eq bytes) reserved) ≡ true → IsTrue (is_name bytes)
  unfolding is_name
  name_from bytes h k = and_true (is_word bytes) (not (list_any (bytes_eq bytes) reserved)) h k

  word_is_named : (w : Word) → IsTrue (is_word (word_at text w)) → Named (word_tok (word_at text w) w)
  word_is_named w h =
      either (bytes_eq (word_at text w) (codes "type")) _ _ (plain refl) (λ a.
      either (bytes_eq (word_at text w) (codes "const")) _ _ (plain refl) (λ b.
      either (bytes_eq (word_at text w) (codes "fact")) _ _ (plain refl) (λ c.
      either (bytes_eq (word_at text w) (codes "goal")) _ _ (plain refl) (λ d.
      either (bytes_eq (word_at text w) (codes "assume")) _ _ (plain refl) (λ e.
      either (bytes_eq (word_at text w) (codes "bool")) _ _ (plain refl) (λ f.
      either (bytes_eq (word_at text w) (codes "true")) _ _ (plain refl) (λ g.
      either (bytes_eq (word_at text w) (codes "false")) _ _ (plain refl) (λ i.
      plain (name_from (word_at text w) h (not_reserved _ _ _ _ _ _ _ _ a b c d e f g i))))))))))

  mark_is_named : (b len at : ℕ) → Named (mark_tok b len at)
  mark_is_named b len at =
      either (b == 40) _ _ (plain refl) (λ _.
      either (b == 41) _ _ (plain refl) (λ _.
      either (b == 58) _ _ (plain refl) (λ _.
      either (b == 59) _ _ (plain refl) (λ _.
      either (b == 46) _ _ (plain refl) (λ _.
      either (b == 126) _ _ (plain refl) (λ _.
      either (b == 38) _ _ (plain refl) (λ _.
      either (b == 124) _ _ (plain refl) (λ _.
      either (b == 33) _ _ (plain refl) (λ _.
      either (b == 63) _ _ (plain refl) (λ _.
      either (b == 92) _ _ (plain refl) (λ _.
      either (b == 64) _ _ (plain refl) (λ _.
      either (b == 45) _ _ (plain refl) (λ _.
      either (len == 1) _ _ (plain refl) (λ _.
      plain refl))))))))))))))

  -- a token that is a word of the text
  abbrev cut_named : Kind → Token → Type 0
  cut_named kind.Word t = IsTrue (is_word (word_at text (span t)))
  cut_named kind.Mark t = Unit {0}

  tok_is_named : (k : Kind) (t : Token) → cut_named k t → IsTrue (tok_named (tok_as k text t))
  tok_is_named kind.Word t h = (word_is_named (span t) h).holds
  tok_is_named kind.Mark t h = (mark_is_named (slice_index text t.at) t.len t.at).holds

  -- a word that stands at the front
  stands_named : (k : Kind) (piece rest : List ℕ) → Stands k piece rest → (t : Token) → word_at text (span t) ≡ piece → cut_named k t
  stands_named _ _ _ (cut.word {b = b} {bs = bs} a w s l) t e =
      subst (λ bytes. IsTrue (is_word bytes)) (sym e)
      (and_true (is_ascii_alphabetic b && list_all is_word_byte bs) (nat_le (length (b ∷ bs)) 64) (and_true (is_ascii_alphabetic b) (list_all is_word_byte bs) a w)
      (le-leb (length (b ∷ bs)) 64 l))
  stands_named _ _ _ (cut.mark m longest) t e = tt

  cut_piece : (before piece rest : List ℕ) (n : ℕ) → length before ≡ n → text ≡ before ++ (piece ++ rest) → take (length piece) (drop n text) ≡ piece
  cut_piece before piece rest n len e =
      let here : drop n text ≡ piece ++ rest = ap (drop n) e ∙ ap (λ m. drop m (before ++ (piece ++ rest))) (sym len) ∙ drop-append_seam before (piece ++ rest) in
      ap (take (length piece)) here ∙ take-append_seam piece rest

  further : (before piece : List ℕ) (n : ℕ) → length before ≡ n → length (before ++ piece) ≡ n + length piece
  further before piece n e = length-append before piece ∙ ap (λ m. m + length piece) e

  regroup : (before piece rest : List ℕ) → text ≡ before ++ (piece ++ rest) → text ≡ (before ++ piece) ++ rest
  regroup before piece rest e = e ∙ sym (append_assoc before piece rest)

  tokens_are_named : (n : ℕ) (here : List ℕ) (ts : List Token) → Cuts n here ts → (before : List ℕ) → length before ≡ n → text ≡ before ++ here →
      IsTrue (list_all (λ t. tok_named (tok_of text t)) ts)
  tokens_are_named _ _ _ cut.end before len e = refl
  tokens_are_named _ _ _ (cut.gap {n = n} {piece = piece} {rest = rest} {ts = ts} g more) before len e =
      tokens_are_named (n + length piece) rest ts more (before ++ piece) (further before piece n len) (regroup before piece rest e)
  tokens_are_named _ _ _ (cut.next {n = n} {k = k} {piece = piece} {rest = rest} {ts = ts} s more) before len e =
      and_true (tok_named (tok_of text (cut.token n (length piece) k))) (list_all (λ t. tok_named (tok_of text t)) ts)
      (tok_is_named k (cut.token n (length piece) k) (stands_named k piece rest s (cut.token n (length piece) k) (cut_piece before piece rest n len e)))
      (tokens_are_named (n + length piece) rest ts more (before ++ piece) (further before piece n len) (regroup before piece rest e))

  put_named : (ps : List Placed) → list_all tok_named (put ps []) ≡ placed_named ps
  put_named [] = refl
  put_named (p ∷ ps) = ap (λ b. tok_named p.tok && b) (put_named ps)

  pub declares_names : (items : List Item) → ReadsItems text items → IsTrue (list_all item_named items)
  declares_names items r =
      let cut_ones = tokens_are_named 0 text r.tokens r.cut [] refl refl in
      let said : IsTrue (list_all tok_named (toks_of text r.tokens)) = list_all-map tok_named (tok_of text) r.tokens ∙ cut_ones in
      let placed : IsTrue (placed_named r.derived.placed) = sym (put_named r.derived.placed) ∙ ap (list_all tok_named) (sym r.derived.tokens) ∙ said in
      items_are_named r.derived.placed items r.derived.derived placed
