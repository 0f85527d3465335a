-- The keywords.
use Rattle.std.specs.Prelude.{ℕ, codes, if◌then◌else◌, List, [], ◌∷◌, Option, Some, None}
use Rattle.std.specs.Str.{bytes_eq}
use Rattle.std.specs.Option.{option_or}
use Rattle.fr_syntax.specs.declared.keyword.Keyword.{Keyword}
use Rattle.fr_syntax.specs.declared.keyword.Keyword.TheVariants as keyword

-- names and their keywords
abbrev pub Entries : Type 0
Entries = List (List ℕ × Keyword)

-- the keywords of the plain forms
abbrev pub plain_keywords : Entries
plain_keywords =
    (codes "define-input", keyword.DefineInput) ∷ (codes "define-event", keyword.DefineEvent) ∷ (codes "define", keyword.Define) ∷ (codes "show", keyword.Show)
    ∷ (codes "quote", keyword.Quote) ∷ (codes "if", keyword.If) ∷ (codes "let", keyword.Let) ∷ (codes "let*", keyword.LetStar) ∷ (codes "lambda", keyword.Lambda)
    ∷ (codes "cond", keyword.Cond) ∷ (codes "else", keyword.Else) ∷ (codes "and", keyword.And) ∷ (codes "or", keyword.Or) ∷ []

-- the keywords of loops, events and states, and the two that are reserved
abbrev pub state_keywords : Entries
state_keywords =
    (codes "for/fold", keyword.ForFold) ∷ (codes "repeat", keyword.Repeat) ∷ (codes "map-e", keyword.MapE) ∷ (codes "filter-e", keyword.FilterE)
    ∷ (codes "merge-e", keyword.MergeE) ∷ (codes "hold", keyword.Hold) ∷ (codes "collect-b", keyword.CollectB) ∷ (codes "collect-e", keyword.CollectE)
    ∷ (codes "changes", keyword.Changes) ∷ (codes "once-e", keyword.OnceE) ∷ (codes "delay", keyword.Delay) ∷ (codes "delay-e", keyword.DelayE)
    ∷ (codes "feedback", keyword.Feedback) ∷ (codes "restart", keyword.Restart) ∷ (codes "every", keyword.Every) ∷ []

-- the keyword of the first entry with a name
abbrev pub find : Entries → List ℕ → Option Keyword
find [] name = None
find (e ∷ es) name = if bytes_eq name e.0 then Some e.1 else find es name

-- the keyword that a name is, if it is one
abbrev pub keyword_named : List ℕ → Option Keyword
keyword_named name = option_or (find plain_keywords name) (find state_keywords name)
