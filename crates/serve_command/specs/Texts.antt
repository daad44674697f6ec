-- The line of connections that were served.
use Rattle.std.specs.Prelude.{ℕ, List, [], ◌∷◌, ◌++◌, codes, decimal}
use Rattle.range_server.specs.declared.receipts.Receipt.{Receipt}

-- how many connections were served, how many requests were answered over them, and how many bytes were sent
unfoldable pub served_text : ℕ → Receipt → List ℕ
served_text connections receipt =
    codes "served " ++ decimal connections ++ codes " requests " ++ decimal receipt.requests ++ codes " sent " ++ decimal receipt.sent ++ 10 ∷ []
