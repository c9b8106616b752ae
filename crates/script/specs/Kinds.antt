-- Kinds of bids as they are written.
use Rattle.std.specs.Prelude.{◌≡◌, ◌≢◌, ℕ, List, Result, Ok, Err, codes}
use Rattle.script.specs.declared.lines.Kind.{Kind}
use Rattle.script.specs.declared.lines.Kind.TheVariants.{Hourly, Block, Flexible}
use Rattle.script.specs.declared.lines.UnknownKind.{UnknownKind}

-- the word of a kind of bid
abbrev pub word_of : Kind → List ℕ
word_of Hourly = codes "hourly"
word_of Block = codes "block"
word_of Flexible = codes "flexible"

-- a word is read as the kind whose word it is, and as none where it is the word of no kind
abbrev pub ReadsKind : List ℕ → Result Kind UnknownKind → Type 0
ReadsKind word (Ok kind) = word ≡ word_of kind
ReadsKind word (Err _) = (kind : Kind) → word ≢ word_of kind
