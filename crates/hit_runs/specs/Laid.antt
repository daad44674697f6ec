-- The features where leaves say, one behind another, and the runs that they are read in.
use Rattle.std.specs.Prelude.{◌≡◌, ⊤, ℕ, ◌+◌, ◌≤◌, nat_lt, max, if◌then◌else◌, Bool, List, [], ◌∷◌, Some}
use Rattle.std.specs.List.{flat_map, range_with_len}
use Rattle.fgb_file.specs.File.{size_at}
use Rattle.box_search.specs.declared.nodes.Hit.{Hit}

-- where the leaf says that its feature stands, the first of all being there, and where a feature ends that does so
abbrev pub place_said : ℕ → Hit → ℕ
place_said first hit = first + hit.item.offset

abbrev pub end_there : List ℕ → ℕ → Hit → ℕ
end_there image first hit = place_said first hit + 4 + size_at image (place_said first hit)

-- the positions of size prefixes and buffers
abbrev pub hit_positions : List ℕ → ℕ → List Hit → List ℕ
hit_positions image first hits = flat_map (λ h. range_with_len (place_said first h) (4 + size_at image (place_said first h))) hits

-- the next feature stands at the end of the one before, or behind a hole that is shorter than the gap
abbrev pub is_joined : ℕ → ℕ → ℕ → Bool
is_joined gap end place = nat_lt place (end + max gap 1)

-- where the run ends that these features begin with: features that are joined, with the holes between them
abbrev pub run_end : List ℕ → ℕ → ℕ → List Hit → ℕ
run_end image first gap [] = first
run_end image first gap (h ∷ []) = end_there image first h
run_end image first gap (h ∷ (g ∷ hits)) = if is_joined gap (end_there image first h) (place_said first g) then run_end image first gap (g ∷ hits) else end_there image first h

-- where a leaf says where the next one's feature stands, its own feature ends
abbrev pub SaysEnd : List ℕ → ℕ → Hit → Type 0
SaysEnd image first hit = (next : ℕ) → hit.next ≡ Some next → first + next ≡ end_there image first hit

-- the features stand one behind another, and end where their leaves say
abbrev pub AreLaid : List ℕ → ℕ → List Hit → Type 0
AreLaid image first [] = ⊤
AreLaid image first (h ∷ []) = SaysEnd image first h
AreLaid image first (h ∷ (g ∷ hits)) = SaysEnd image first h × (end_there image first h ≤ place_said first g) × AreLaid image first (g ∷ hits)
