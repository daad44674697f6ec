-- The replies of a server that serves one image as `/map.fgb` (RFC 9110, sections 8.6, 14 and 15).
use Rattle.std.specs.Prelude.{◌&&◌, ◌||◌, not, ℕ, ◌+◌, ◌-◌, Bool, true, if◌then◌else◌, List, [], ◌++◌, length, codes, bytes_eq, decimal, slice_range, Option, unwrap_or}
use Rattle.std.specs.Option.{option_map, option_map_or}
use Rattle.http.specs.StatusCode.{code_digits, reason_phrase}
use Rattle.range_text.specs.Ranges.{answer_to, content_text}
use Rattle.range_text.specs.declared.answers.RangeAnswer.{RangeAnswer}
use Rattle.range_text.specs.declared.answers.RangeAnswer.TheVariants.{Whole, Part, Unsatisfied}
use Rattle.range_text.specs.declared.answers.ContentRange.TheVariants as content
use Rattle.range_reply.specs.declared.rows.Answer.{Answer}
use Rattle.range_reply.specs.declared.rows.Answer.TheVariants.{BadRequest, NotFound, NotAllowed, Size, Image}
use Rattle.range_reply.specs.Spelled.{range_in}
use Rattle.request_head.specs.Requests.{RequestParts, asks_to_close, has_no_body, has_one_host, only_value, parts_of}
use Rattle.request_head.proofs.Deciding.{request_in}

-- the request that the bytes are, if they are one
abbrev pub request_of : List ℕ → Option RequestParts
request_of bytes = option_map parts_of (request_in bytes).found

-- the part of an image of this size that the value of a Range field asks for, the whole where it spells no range
abbrev pub range_of_value : ℕ → List ℕ → RangeAnswer
range_of_value size value = option_map_or (answer_to size) (range_in value).found Whole

-- what a request asks for: the whole where it has not exactly one Range field
abbrev pub range_asked : ℕ → RequestParts → RangeAnswer
range_asked size request = option_map_or (range_of_value size) (only_value (codes "range") request) Whole

-- a request that is not bad
abbrev pub is_served : RequestParts → Bool
is_served request = has_one_host request && has_no_body request

-- the answer to it: the first row that fits
abbrev pub answer_served : ℕ → RequestParts → Answer
answer_served size request =
    if not (bytes_eq request.method (codes "GET") || bytes_eq request.method (codes "HEAD")) then NotAllowed
    else if not (bytes_eq request.target (codes "/map.fgb")) then NotFound
    else if bytes_eq request.method (codes "HEAD") then Size
    else Image (range_asked size request)

abbrev pub answer_request : ℕ → RequestParts → Answer
answer_request size request = if is_served request then answer_served size request else BadRequest

-- the connection closes after a bad request, and where the request asks for it
abbrev pub closes_after_request : RequestParts → Bool
closes_after_request request = if is_served request then asks_to_close request else true

-- the same of a head, which is bad where it is no request
abbrev pub answer_of : ℕ → List ℕ → Answer
answer_of size head = option_map_or (answer_request size) (request_of head) BadRequest

abbrev pub closes_after : List ℕ → Bool
closes_after head = option_map_or closes_after_request (request_of head) true

-- its status
abbrev pub status_of : Answer → ℕ
status_of BadRequest = 400
status_of NotFound = 404
status_of NotAllowed = 405
status_of Size = 200
status_of (Image Whole) = 200
status_of (Image (Part first last)) = 206
status_of (Image Unsatisfied) = 416

-- a line of a reply's head
abbrev pub line : List ℕ → List ℕ
line text = text ++ codes "\r\n"

-- the lines that tell of ranges and methods
abbrev pub accepts : List ℕ
accepts = line (codes "Accept-Ranges: bytes")

abbrev pub own_lines : ℕ → Answer → List ℕ
own_lines size BadRequest = []
own_lines size NotFound = []
own_lines size NotAllowed = line (codes "Allow: GET, HEAD")
own_lines size Size = accepts
own_lines size (Image Whole) = accepts
own_lines size (Image (Part first last)) = accepts ++ line (codes "Content-Range: " ++ content_text (content.Part first last size))
own_lines size (Image Unsatisfied) = accepts ++ line (codes "Content-Range: " ++ content_text (content.Unsatisfied size))

-- the length that its head tells, which is that of a GET for HEAD too
abbrev pub told_length : ℕ → Answer → ℕ
told_length size BadRequest = 0
told_length size NotFound = 0
told_length size NotAllowed = 0
told_length size Size = size
told_length size (Image Whole) = size
told_length size (Image (Part first last)) = last + 1 - first
told_length size (Image Unsatisfied) = 0

-- the first line of the reply, and its whole head
abbrev pub status_line : Answer → List ℕ
status_line answer = line (codes "HTTP/1.1 " ++ code_digits (status_of answer) ++ codes " " ++ unwrap_or (reason_phrase (status_of answer)) [])

abbrev pub head_text : ℕ → Answer → Bool → List ℕ
head_text size answer closes =
    status_line answer
    ++ own_lines size answer
    ++ line (codes "Content-Length: " ++ decimal (told_length size answer))
    ++ (if closes then line (codes "Connection: close") else [])
    ++ line []

-- its body: the whole image, a part of it, or none
abbrev pub body_text : List ℕ → Answer → List ℕ
body_text image BadRequest = []
body_text image NotFound = []
body_text image NotAllowed = []
body_text image Size = []
body_text image (Image Whole) = image
body_text image (Image (Part first last)) = slice_range image first (last + 1)
body_text image (Image Unsatisfied) = []

-- the reply to a head
unfoldable pub reply_of : List ℕ → List ℕ → List ℕ
reply_of image head =
    let answer = answer_of (length image) head in
    head_text (length image) answer (closes_after head) ++ body_text image answer
