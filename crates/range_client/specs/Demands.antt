-- What requests ask for, and what their replies have to tell (RFC 9110, sections 8.6, 14.4, 15.3.7 and 15.5.17).
use Rattle.std.specs.Prelude.{◌≡◌, ◌≤◌, ◌==◌, ◌||◌, ◌+◌, ◌-◌, ◌^◌, ℕ, nat_le, Bool, if◌then◌else◌}
use Rattle.range_text.specs.declared.answers.ContentRange.{ContentRange}
use Rattle.range_text.specs.declared.answers.ContentRange.TheVariants as content
use Rattle.range_client.specs.declared.demands.Demand.{Demand}
use Rattle.range_client.specs.declared.demands.Demand.TheVariants.{FirstByte, Part}

-- the first and the last place that is asked for
abbrev pub first_of : Demand → ℕ
first_of FirstByte = 0
first_of (Part first last size) = first

abbrev pub last_of : Demand → ℕ
last_of FirstByte = 0
last_of (Part first last size) = last

-- the places are in order, in a file of at most 2^48 bytes
abbrev pub IsOrdered : Demand → Type 0
IsOrdered FirstByte = Unit {0}
IsOrdered (Part first last size) = (first ≤ last) × (last ≤ 2 ^ 48)

-- the statuses of a reply; 416 tells that the file is empty
abbrev pub is_status : Demand → ℕ → Bool
is_status FirstByte status = (status == 206) || (status == 416)
is_status (Part first last size) status = status == 206

-- what its Content-Range field tells, of a file of this size
abbrev pub range_wanted : Demand → ℕ → ℕ → ContentRange
range_wanted FirstByte status size = if status == 206 then content.Part 0 0 size else content.Unsatisfied size
range_wanted (Part first last known) status size = content.Part first last size

-- the sizes that it may tell: at most 2^48 bytes, none of an empty file, and the one that is known
abbrev pub is_size : Demand → ℕ → ℕ → Bool
is_size FirstByte status size = if status == 206 then nat_le size (2 ^ 48) else size == 0
is_size (Part first last known) status size = size == known

-- how many bytes its body has, and the least of them whatever the status
abbrev pub length_wanted : Demand → ℕ → ℕ
length_wanted FirstByte status = if status == 206 then 1 else 0
length_wanted (Part first last size) status = last - first + 1

abbrev pub least_of : Demand → ℕ
least_of FirstByte = 0
least_of (Part first last size) = last - first + 1

-- the room is that of the longest body
abbrev pub HasRoom : Demand → ℕ → Type 0
HasRoom FirstByte room = room ≡ 1
HasRoom (Part first last size) room = (first ≤ last) × (last ≤ 2 ^ 48) × (last - first + 1 ≡ room)

-- the size that is told
abbrev pub size_in : ContentRange → ℕ
size_in (content.Part first last size) = size
size_in (content.Unsatisfied size) = size
