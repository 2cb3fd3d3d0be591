-- The grammar of an ASCII mesh, piece by piece, each from a place on.
--
--     file    = solid solid*
--     solid   = "solid" rest facet* "endsolid" rest
--     rest    = all bytes up to and including the next CR or LF, or to the end
--     facet   = "facet" "normal" word word word "outer" "loop" vertex vertex vertex "endloop" "endfacet"
--     vertex  = "vertex" length length length
--
-- Each reading gives what it reads, and the place behind it.
--
--   next bytes at             a word, the empty one where none is left
--   keyword bytes at k        the word of the keyword
--   any_word bytes at         a word that isn't empty
--   number bytes at           a length in µm, that of a decimal in mm
--   vertex, facet             facet: what stands behind the word `facet`
--   opening bytes at          the first line of a solid
--   closing bytes at          what stands behind the word `endsolid`: the rest of its line, then the next solid's opening or
--                             the end of the file
--   part bytes at count       what stands next in a solid, `count` facets before it: a facet or the end of the solid
use Rattle.std.specs.Prelude.{◌≡◌, ℕ, ◌<◌, ℤ, List, codes, Option, Some, None, Result, Ok, Err}
use Rattle.decimal_lengths.specs.declared.Decimal.{Decimal}
use Rattle.decimal_lengths.specs.Lengths.{IsReadAs}
use Rattle.decimal_lengths.specs.Refusals.{Refuses}
use Rattle.seq_model.specs.declared.mesh.Point3.{Point3}
use Rattle.seq_model.specs.declared.mesh.Facet.{Facet}
use Rattle.stl_text.specs.declared.Stl.{Stl}
use Rattle.stl_text.specs.declared.Stl.TheVariants.{Expected, Number, TooManyFacets}
use Rattle.stl_text.specs.declared.Keyword.{Keyword}
use Rattle.stl_text.specs.declared.Keyword.TheVariants as Keywords
use Rattle.stl_text.specs.declared.words.Word.{Word}
use Rattle.stl_text.specs.declared.parts.Part.{Part}
use Rattle.stl_text.specs.declared.parts.Part.TheVariants as Parts
use Rattle.stl_text.specs.Words.{IsNext, IsRest, IsSpelled, letters}
use Rattle.stl_text.specs.Reading.{Reading, gives, refuses, ◌>>=◌, choice}
use Rattle.seq_limits.specs.declared.TheConstants.{MOST_FACETS}

-- how a keyword is told to a person; those that are one word are spelled so in a file
abbrev pub text_of : Keyword → List ℕ
text_of Keywords.Solid = codes "solid"
text_of Keywords.FacetOrEndsolid = codes "facet or endsolid"
text_of Keywords.Normal = codes "normal"
text_of Keywords.NormalWord = codes "word of normal"
text_of Keywords.Outer = codes "outer"
text_of Keywords.Loop = codes "loop"
text_of Keywords.Vertex = codes "vertex"
text_of Keywords.Endloop = codes "endloop"
text_of Keywords.Endfacet = codes "endfacet"

pub record NextWord (bytes : List ℕ) (at : ℕ) (r : Result Word Stl) : Type 0 where
  pub word : Word
  pub is : IsNext bytes at word
  pub given : r ≡ Ok word

abbrev pub next : List ℕ → ℕ → Reading Word
next bytes at = NextWord bytes at

pub record RestOfLine (bytes : List ℕ) (at : ℕ) (r : Result ℕ Stl) : Type 0 where
  pub to : ℕ
  pub is : IsRest bytes at to
  pub given : r ≡ Ok to

abbrev pub rest : List ℕ → ℕ → Reading ℕ
rest bytes at = RestOfLine bytes at

-- the length that the text at a place spells
pub record IsNoLength (text : List ℕ) (place : ℕ) (e : Stl) : Type 0 where
  pub cause : Decimal
  pub refused : Refuses text cause
  pub told : e ≡ Number place cause

abbrev pub length_of : List ℕ → ℕ → Reading ℤ
length_of text place (Ok um) = IsReadAs text um
length_of text place (Err e) = IsNoLength text place e

abbrev pub keyword : List ℕ → ℕ → Keyword → Reading ℕ
keyword bytes at k = do
  word ← next bytes at
  choice (IsSpelled (letters bytes word) (text_of k)) (gives word.to) (refuses (Expected k word.from))

abbrev pub any_word : List ℕ → ℕ → Reading ℕ
any_word bytes at = do
  word ← next bytes at
  choice (word.from < word.to) (gives word.to) (refuses (Expected Keywords.NormalWord word.from))

abbrev pub number : List ℕ → ℕ → Reading (ℤ × ℕ)
number bytes at = do
  word ← next bytes at
  um ← length_of (letters bytes word) word.from
  gives (um, word.to)

abbrev pub vertex : List ℕ → ℕ → Reading (Point3 × ℕ)
vertex bytes at = do
  a ← keyword bytes at Keywords.Vertex
  x ← number bytes a
  y ← number bytes x.1
  z ← number bytes y.1
  gives (record { x = x.0; y = y.0; z = z.0 }, z.1)

abbrev pub normal : List ℕ → ℕ → Reading ℕ
normal bytes at = do
  n ← keyword bytes at Keywords.Normal
  x ← any_word bytes n
  y ← any_word bytes x
  any_word bytes y

abbrev pub facet : List ℕ → ℕ → Reading (Facet × ℕ)
facet bytes at = do
  n ← normal bytes at
  o ← keyword bytes n Keywords.Outer
  l ← keyword bytes o Keywords.Loop
  a ← vertex bytes l
  b ← vertex bytes a.1
  c ← vertex bytes b.1
  e ← keyword bytes c.1 Keywords.Endloop
  to ← keyword bytes e Keywords.Endfacet
  gives (record { a = a.0; b = b.0; c = c.0 }, to)

abbrev pub opening : List ℕ → ℕ → Reading ℕ
opening bytes at = do
  to ← keyword bytes at Keywords.Solid
  rest bytes to

-- behind the word `endsolid`: the place behind the first line of the next solid, if there is one
abbrev pub closing : List ℕ → ℕ → Reading (Option ℕ)
closing bytes at = do
  line ← rest bytes at
  word ← next bytes line
  choice (word.from < word.to) (opening bytes line >>= λ to. gives (Some to)) (gives None)

abbrev pub next_facet : List ℕ → ℕ → ℕ → Reading Part
next_facet bytes at count = choice (count < MOST_FACETS) (facet bytes at >>= λ f. gives (Parts.Facet f.0 f.1)) (refuses TooManyFacets)

abbrev pub ending : List ℕ → ℕ → Reading Part
ending bytes at = closing bytes at >>= λ to. gives (Parts.Ending to)

abbrev pub part : List ℕ → ℕ → ℕ → Reading Part
part bytes at count = do
  word ← next bytes at
  choice (IsSpelled (letters bytes word) (codes "facet"))
      (next_facet bytes word.to count)
      (choice (IsSpelled (letters bytes word) (codes "endsolid")) (ending bytes word.to) (refuses (Expected Keywords.FacetOrEndsolid word.from)))
