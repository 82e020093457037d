-- The farm file, a list of bytes: a directory of its sections, then these. Paper 02, "The farm file". Definitions only.
use Rattle.std.specs.Prelude.{ℕ, zero, suc, ◌+◌, ◌-◌, ◌*◌, ◌/◌, ◌≡◌, Bool, true, ◌&&◌, List, [], ◌∷◌, ◌++◌, leb, length, take, Float}
use Rattle.number.specs.Limits.{fewest_sections, most_sections}
use Rattle.number.specs.Bytes.{word_at, numbers_at}
use Rattle.farm.specs.declared.directory.Section.{Section}

-- ---- the directory

-- "It starts with a count of sections, 32 bits unsigned little-endian",
abbrev pub section_count : List ℕ → ℕ
section_count b = word_at 4 b 0

-- "then that many pairs of offset and length, each number also 32 bits": pair i.
abbrev pub section_at : List ℕ → ℕ → Section
section_at b i = record { offset = word_at 4 b (4 + 8 * i); size = word_at 4 b (8 + 8 * i) }

-- n pairs, from pair i on
unfoldable pub sections_from : List ℕ → ℕ → ℕ → List Section
sections_from b i zero = []
sections_from b i (suc n) = section_at b i ∷ sections_from b (suc i) n

-- where a directory of n sections ends
abbrev pub directory_end : ℕ → ℕ
directory_end n = 4 + 8 * n

-- "Section 0 holds the volume; each later section holds a single box"
abbrev pub volume_section : List ℕ → Section
volume_section b = section_at b 0

abbrev pub box_sections : List ℕ → List Section
box_sections b = sections_from b 1 (section_count b - 1)

-- all of them
abbrev pub sections : List ℕ → List Section
sections b = sections_from b 0 (section_count b)

-- ---- a section: "Offsets count bytes from the start, lengths count bytes"

-- just behind its last byte
abbrev pub end_of : Section → ℕ
end_of s = s.offset + s.size

-- its bytes "as little-endian f64 numbers"
abbrev pub numbers_of : List ℕ → Section → List Float
numbers_of b s = numbers_at b s.offset (s.size / 8)

-- those of several, one behind the other
unfoldable pub numbers_of_all : List ℕ → List Section → List Float
numbers_of_all b [] = []
numbers_of_all b (s ∷ ss) = numbers_of b s ++ numbers_of_all b ss

abbrev pub file_numbers : List ℕ → List Float
file_numbers b = numbers_of_all b (sections b)

-- numbers in front of a room
abbrev pub InFront : List Float → List Float → Type 0
InFront s room = take (length s) room ≡ s

-- ---- which files are well formed

-- No section, "even one of length 0, starts before the end of the directory or of the section listed before it, or passes the end of the file":
-- the first may start at a place `from` and the file ends at `end`.
unfoldable pub in_order : ℕ → ℕ → List Section → Bool
in_order from end [] = true
in_order from end (s ∷ ss) = leb from s.offset && leb (end_of s) end && in_order (end_of s) end ss

-- none of what is refused with 9
unfoldable pub well_formed : List ℕ → Bool
unfolding sections_from in_order
well_formed b =
    let n = section_count b in
    leb 4 (length b) && leb fewest_sections n && leb n most_sections && leb (directory_end n) (length b) && in_order (directory_end n) (length b) (sections_from b 0 n)
