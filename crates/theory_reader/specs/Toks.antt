-- What the words and marks of a text say to its grammar.
use Rattle.std.specs.Prelude.{ℕ, ◌==◌, true, false, if◌then◌else◌, List, map, codes, slice_get, slice_index, length}
use Rattle.std.specs.Option.{option_map_or}
use Rattle.std.specs.Str.{bytes_eq}
use Rattle.text_kit.specs.declared.cut.Token.{Token}
use Rattle.text_kit.specs.declared.cut.Kind.{Kind}
use Rattle.text_kit.specs.declared.cut.Kind.TheVariants as kind
use Rattle.theory_syntax.specs.declared.tokens.Word.{Word}
use Rattle.theory_syntax.specs.declared.tokens.Quant.TheVariants as quant
use Rattle.theory_syntax.specs.declared.tokens.Tok.{Tok}
use Rattle.theory_syntax.specs.declared.tokens.Tok.TheVariants as tok
use Rattle.theory_terms.specs.Words.{word_at}

-- the word of these bytes that stands at `w`: a word of the language, or a name
abbrev pub word_tok : List ℕ → Word → Tok
word_tok bytes w =
    if bytes_eq bytes (codes "type") then tok.Type
    else (if bytes_eq bytes (codes "const") then tok.Const
    else (if bytes_eq bytes (codes "fact") then tok.Fact
    else (if bytes_eq bytes (codes "goal") then tok.Goal
    else (if bytes_eq bytes (codes "assume") then tok.Assume
    else (if bytes_eq bytes (codes "bool") then tok.Bool
    else (if bytes_eq bytes (codes "true") then tok.Truth true w.start
    else (if bytes_eq bytes (codes "false") then tok.Truth false w.start
    else tok.Word w)))))))

-- the mark of `len` bytes with the first byte `b`, which stands at `at`
abbrev pub mark_tok : ℕ → ℕ → ℕ → Tok
mark_tok b len at =
    if b == 40 then tok.Open at  -- (
    else (if b == 41 then tok.Close  -- )
    else (if b == 58 then tok.Colon  -- :
    else (if b == 59 then tok.Semi  -- ;
    else (if b == 46 then tok.Dot  -- .
    else (if b == 126 then tok.Tilde at  -- ~
    else (if b == 38 then tok.Amp  -- &
    else (if b == 124 then tok.Bar  -- |
    else (if b == 33 then tok.Quant quant.All at  -- !
    else (if b == 63 then tok.Quant quant.Ex at  -- ?
    else (if b == 92 then tok.Quant quant.Lambda at  -- \
    else (if b == 64 then tok.Quant quant.Eps at  -- @
    else (if b == 45 then tok.Arrow  -- ->
    else (if len == 1 then tok.Equal  -- =
    else tok.Imp)))))))))))))  -- ==>

-- where a token stands
abbrev pub span : Token → Word
span t = record { start = t.at; len = t.len }

abbrev pub tok_as : Kind → List ℕ → Token → Tok
tok_as kind.Word text t = word_tok (word_at text (span t)) (span t)
tok_as kind.Mark text t = mark_tok (slice_index text t.at) t.len t.at

-- what a token of the text says
abbrev pub tok_of : List ℕ → Token → Tok
tok_of text t = tok_as t.kind text t

abbrev pub toks_of : List ℕ → List Token → List Tok
toks_of text ts = map (tok_of text) ts

-- the first byte of the token at a place, or the text's length behind the last
abbrev pub byte_at : List ℕ → List Token → ℕ → ℕ
byte_at text ts place = option_map_or (λ t. t.at) (slice_get ts place) (length text)
