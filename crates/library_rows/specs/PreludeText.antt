-- The functions of the libraries that are Lua text (Lua 5.4 manual, 6). Its `_ENV` is a table of its own, which scripts cannot reach: it has every
-- primitive under its name there and these functions.
use Rattle.std.specs.Prelude.{ℕ, List, [], ◌∷◌, ◌++◌, map, codes}
use Rattle.std.specs.List.{flat_map}
use Rattle.library_rows.specs.Library.{Library, library_name, of_globals, of_coroutine, of_string, of_table, of_prelude}

abbrev pub prelude_lines : List (List ℕ)
prelude_lines =
    codes "function bad(i,f,w) error(\"bad argument #\"..i..\" to '\"..f..\"' (\"..w..\")\") end"
    ∷ codes "function tabl(f,t) if type(t)~=\"table\" then bad(1,f,\"table expected, got \"..type(t)) end end"
    ∷ codes "function int(f,i,v) local n=toint(v)"
    ∷ codes " if n==nil then bad(i,f,\"number expected, got \"..type(v)) end return n end"
    ∷ codes "function str(f,i,v) local k=type(v) if k==\"number\" then return text(v) end"
    ∷ codes " if k~=\"string\" then bad(i,f,\"string expected, got \"..k) end return v end"
    ∷ codes "function tostring(v) local h=meta(v,\"__tostring\") if h==nil then return text(v) end"
    ∷ codes " local s=h(v) local k=type(s) if k==\"number\" then return text(s) end"
    ∷ codes " if k~=\"string\" then error(\"'__tostring' must return a string\") end return s end"
    ∷ codes "function print(...) for i=1,select(\"#\",...) do if i>1 then out(\"\\t\") end"
    ∷ codes " out(tostring((select(i,...)))) end out(\"\\n\") end"
    ∷ codes "function inext(t,i) i=i+1 local v=t[i] if v~=nil then return i,v end end"
    ∷ codes "function ipairs(t) return inext,t,0 end"
    ∷ codes "function pairs(t) local h=meta(t,\"__pairs\")"
    ∷ codes " if h==nil then return next,t,nil end"
    ∷ codes " local a,b,c=h(t) return a,b,c end"
    ∷ codes "function insert(t,...) tabl(\"insert\",t) local e,n=#t+1,select(\"#\",...)"
    ∷ codes " if n==1 then t[e]=(...) return end"
    ∷ codes " if n~=2 then error(\"wrong number of arguments to 'insert'\") end"
    ∷ codes " local p,v=... p=int(\"insert\",2,p)"
    ∷ codes " if p<1 or p>e then bad(2,\"insert\",\"position out of bounds\") end"
    ∷ codes " for i=e,p+1,-1 do t[i]=t[i-1] end t[p]=v end"
    ∷ codes "function remove(t,p) tabl(\"remove\",t) local n=#t"
    ∷ codes " if p==nil then p=n else p=int(\"remove\",2,p) end"
    ∷ codes " if p~=n and (p<1 or p>n+1) then bad(2,\"remove\",\"position out of bounds\") end"
    ∷ codes " local v=t[p] for i=p,n-1 do t[i]=t[i+1] end"
    ∷ codes " if p<n then p=n end t[p]=nil return v end"
    ∷ codes "function concat(t,s,i,j) tabl(\"concat\",t)"
    ∷ codes " if s==nil then s=\"\" else s=str(\"concat\",2,s) end"
    ∷ codes " if i==nil then i=1 else i=int(\"concat\",3,i) end"
    ∷ codes " if j==nil then j=#t else j=int(\"concat\",4,j) end"
    ∷ codes " local r,n={},0"
    ∷ codes " for k=i,j do local v=t[k] local y=type(v)"
    ∷ codes "  if y~=\"string\" and y~=\"number\" then"
    ∷ codes "   error(\"invalid value (at index \"..k..\") in table for 'concat'\") end"
    ∷ codes "  if n>0 then n=n+1 r[n]=s end n=n+1 r[n]=v end"
    ∷ codes " return join(r,n) end"
    ∷ codes "function unpack(t,i,j) if i==nil then i=1 else i=int(\"unpack\",2,i) end"
    ∷ codes " if j==nil then j=#t else j=int(\"unpack\",3,j) end"
    ∷ codes " if i>j then return end"
    ∷ codes " if j-i<0 or j-i>=1000000 then error(\"too many results to unpack\") end"
    ∷ codes " local r={} for k=i,j do r[k-i+1]=t[k] end return spread(r,j-i+1) end"
    ∷ codes "function move(a,f,e,t,b) tabl(\"move\",a)"
    ∷ codes " f=int(\"move\",2,f) e=int(\"move\",3,e) t=int(\"move\",4,t)"
    ∷ codes " if b==nil then b=a elseif type(b)~=\"table\" then"
    ∷ codes "  bad(5,\"move\",\"table expected, got \"..type(b)) end"
    ∷ codes " if e>=f then"
    ∷ codes "  if f<=0 and e>=0x7fffffffffffffff+f then bad(3,\"move\",\"too many elements to move\") end"
    ∷ codes "  if t>0x7fffffffffffffff-(e-f) then bad(4,\"move\",\"destination wrap around\") end"
    ∷ codes "  if t>e or t<=f or b~=a then for i=0,e-f do b[t+i]=a[f+i] end"
    ∷ codes "  else for i=e-f,0,-1 do b[t+i]=a[f+i] end end"
    ∷ codes " end return b end"
    ∷ codes "function gmatch(s,p,i) local _ENV=_ENV s=str(\"gmatch\",1,s) p=str(\"gmatch\",2,p)"
    ∷ codes " if i~=nil then i=int(\"gmatch\",3,i) end"
    ∷ codes " local at,last=from(i,#s),0"
    ∷ codes " return function() local b,e,c=seek(s,p,at,last,true)"
    ∷ codes "  if b==nil then return nil end at=e last=e return spread(c,c.n) end end"
    ∷ codes "function gsub(s,p,r,m) s=str(\"gsub\",1,s) p=str(\"gsub\",2,p) local k=type(r)"
    ∷ codes " if k==\"number\" then r=text(r) k=\"string\" end"
    ∷ codes " if k~=\"string\" and k~=\"table\" and k~=\"function\" then"
    ∷ codes "  bad(3,\"gsub\",\"string/function/table expected, got \"..k) end"
    ∷ codes " if m==nil then m=#s+1 else m=int(\"gsub\",4,m) end"
    ∷ codes " local o,q,at,last,n={},0,1,0,0"
    ∷ codes " while n<m do local b,e,c=seek(s,p,at,last,false)"
    ∷ codes "  if b==nil then break end n=n+1 local v"
    ∷ codes "  if k==\"string\" then v=expand(r,c) elseif k==\"table\" then v=r[c[1]]"
    ∷ codes "  else v=r(spread(c,c.n)) end"
    ∷ codes "  if not v then v=c[0] else local y=type(v) if y~=\"string\" and y~=\"number\" then"
    ∷ codes "   error(\"invalid replacement value (a \"..y..\")\") end end"
    ∷ codes "  o[q+1]=sub(s,at,b-1) o[q+2]=v q=q+2 at=e last=e"
    ∷ codes "  if sub(p,1,1)==\"^\" then break end end"
    ∷ codes " o[q+1]=sub(s,at) return join(o,q+1),n end"
    ∷ codes "function format(f,...) f=str(\"format\",1,f) local a,k=pack(...),kinds(f)"
    ∷ codes " for i=1,#k do if sub(k,i,i)==\"s\" and i<=a.n then a[i]=tostring(a[i]) end end"
    ∷ codes " return layout(f,spread(a,a.n)) end"
    ∷ codes "function load(c,n,m,...) if type(c)==\"function\" then local r,q={},0"
    ∷ codes "  while true do local ok,s=pcall(c) if not ok then return nil,s end"
    ∷ codes "   if s==nil or s==\"\" then break end"
    ∷ codes "   if type(s)~=\"string\" then return nil,\"reader function must return a string\" end"
    ∷ codes "   q=q+1 r[q]=s end"
    ∷ codes "  c=join(r,q) end return build(c,n,m,...) end"
    ∷ codes "function after(c,ok,...) if ok then return ... end local e=..."
    ∷ codes " if status(c)==\"dead\" then local o,x=close(c) if not o then e=x end end"
    ∷ codes " error(e,0) end"
    ∷ codes "function wrap(f) local _ENV=_ENV local c=create(f)"
    ∷ codes " return function(...) return after(c,resume(c,...)) end end" ∷ []

-- each line with its end
unfoldable pub prelude_text : List ℕ
prelude_text = flat_map (λ line. line ++ 10 ∷ []) prelude_lines

-- the functions in the order of the text, by the tables in which scripts find them
abbrev pub prelude_functions : List (List ℕ × Library)
prelude_functions =
    (codes "bad", of_prelude)
    ∷ (codes "tabl", of_prelude)
    ∷ (codes "int", of_prelude)
    ∷ (codes "str", of_prelude)
    ∷ (codes "tostring", of_globals)
    ∷ (codes "print", of_globals)
    ∷ (codes "inext", of_prelude)
    ∷ (codes "ipairs", of_globals)
    ∷ (codes "pairs", of_globals)
    ∷ (codes "insert", of_table)
    ∷ (codes "remove", of_table)
    ∷ (codes "concat", of_table)
    ∷ (codes "unpack", of_table)
    ∷ (codes "move", of_table)
    ∷ (codes "gmatch", of_string)
    ∷ (codes "gsub", of_string)
    ∷ (codes "format", of_string)
    ∷ (codes "load", of_globals)
    ∷ (codes "after", of_prelude)
    ∷ (codes "wrap", of_coroutine) ∷ []

-- the names under which they are saved
abbrev pub function_keys : List (List ℕ)
function_keys = map (λ (f : List ℕ × Library). library_name f.1 ++ f.0) prelude_functions
